pub mod StoredImage
pub mod ImageText
pub mod ImageRefusal
pub mod ImageHeader
pub mod ImageLayout
pub mod ImageReader
pub mod Picking
