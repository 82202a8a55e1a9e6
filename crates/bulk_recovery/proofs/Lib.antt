pub mod RecoveryLemmas
