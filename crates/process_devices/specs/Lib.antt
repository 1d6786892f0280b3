pub mod BesideName
