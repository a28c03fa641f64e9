pub mod Acting
pub mod Laws
pub mod Results
