pub mod Accepted
pub mod Between
pub mod FirstRepeats
pub mod OneRefusal
pub mod UnitParts
pub mod UnitVersions
