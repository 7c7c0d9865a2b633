pub mod CapabilityRecords
