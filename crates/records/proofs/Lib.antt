-- The laws of the table on the wire, in the order to read them, over the size of a record. The theorems to look for: SizedReading.in_valid and
-- in_lookup_raw, SizedWritten.in_routes_bytes and in_bytes_back, Laid.laid_then, SizedLaid.in_laid_record. Reading and Written have those that are cited
-- at 8 bytes.
pub mod Octets
pub mod Numbers
pub mod Laid
pub mod SizedReading
pub mod SizedWritten
pub mod SizedLaid
pub mod SizedKeys
pub mod Reading
pub mod Written
