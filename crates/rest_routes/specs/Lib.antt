pub mod Media
pub mod Methods
pub mod Parameter
pub mod Path
pub mod Place
pub mod Query
pub mod Routes
