pub mod Visits
pub mod Duties
pub mod Stays
pub use Rattle.rbc_server.specs.declared.serving.ServeFault
