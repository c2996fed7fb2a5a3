pub mod Texts
pub mod RulesTexts
pub mod RefusalTexts
pub mod EvidenceTexts
pub mod Given
