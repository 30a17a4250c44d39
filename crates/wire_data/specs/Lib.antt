pub mod ApiVersions
pub mod Fetch
pub mod Header
pub mod ListOffsets
pub mod Metadata
pub mod MetadataResponse
pub mod Produce
