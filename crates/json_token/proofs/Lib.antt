pub mod NumberWalks
pub mod CharWalks
pub mod TokenEndLemmas
pub mod Escapes
pub mod Utf8Lemmas
pub mod ContentLemmas
pub mod Digits
pub mod NumberGrammar
