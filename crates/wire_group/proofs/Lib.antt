pub mod VersionedReads
