pub mod XorLaws
pub mod CrcLaws
pub mod BitLaws
pub mod ModuloLaws
pub mod FoldLaws
pub mod WordLaws
pub mod ChainLaws
pub mod TableLaws
