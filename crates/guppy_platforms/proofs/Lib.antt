pub mod Numbers
pub mod HostFacts
