pub mod FoundImages
