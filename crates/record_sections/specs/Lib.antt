-- The claims of the separate sections, with a row that meets what is asked there.
pub mod RoundTrips
pub mod SectionsRow
