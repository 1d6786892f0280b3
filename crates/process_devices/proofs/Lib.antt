pub mod BesideNames
