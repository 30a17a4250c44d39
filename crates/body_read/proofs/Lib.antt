pub mod ChunkLaws
pub mod ChunkMore
pub mod ChunkParts
pub mod BodyLaws
