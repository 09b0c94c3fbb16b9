-- R291, R295: the characteristics that are frequencies, and the cells that mean no reading.
pub mod NoReading
