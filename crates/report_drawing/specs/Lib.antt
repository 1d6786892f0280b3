pub mod Labels
pub mod Lanes
pub mod Columns
pub mod Folding
pub mod Picture
pub mod Svg
