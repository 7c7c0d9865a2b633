pub mod LeadingBytes
