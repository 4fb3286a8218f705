pub mod TomlFile
pub mod Told
pub mod TopTables
pub mod Loading
