pub mod Replies
pub mod Reports
