-- The memory that a caller passes for an error.
use Rattle.std.specs.Borrow.{Fml}
use Rattle.std.specs.Ptr.{Ptr, if_non_null, points_to}
use Rattle.etherparse_transport_c.specs.declared.error.EtherparseError.{EtherparseError}
use Rattle.etherparse_transport_c.specs.contracts.error.EtherparseError.{the_row}

-- if the pointer is not NULL, it points to this error
abbrev pub holds : Ptr → EtherparseError → Fml
holds pointer error = if_non_null pointer (points_to the_row pointer error)
