pub mod NewestVersions
