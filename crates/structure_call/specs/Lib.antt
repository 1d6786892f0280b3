pub mod Planning
pub mod Standing
pub mod Checking
pub mod Refusing
pub mod Carrying
pub mod Calling
pub mod CountedNumbers
