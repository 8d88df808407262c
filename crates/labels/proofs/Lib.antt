pub mod CaseProofs
