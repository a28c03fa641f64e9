pub mod Conversation
pub mod Ends
