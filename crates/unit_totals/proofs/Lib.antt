mod Balance
pub mod Named
mod Rebuilt
pub mod Settled
mod Standing
