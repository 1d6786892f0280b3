pub mod FreshHeaps
pub mod ScriptedCallers
