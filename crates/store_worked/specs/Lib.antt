pub mod SameCallers
