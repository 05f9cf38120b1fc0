pub mod RecordedCalls
