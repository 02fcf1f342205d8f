-- The order of identifiers and of byte strings.
use Rattle.std.specs.Prelude.{ℕ, Bool, List, nat_eq, ◌==◌, ◌&&◌}
use Rattle.std.specs.Ordering.{nat_cmp, ordering_then}
use Rattle.std.specs.Cmp.Lexicographic.{pointwise, slice_cmp}
use Rattle.std.specs.declared.cmp.Ordering.{Ordering}
use Rattle.qs_base.specs.declared.identifiers.Tid.{Tid}
use Rattle.qs_base.specs.declared.identifiers.Member.{Member}

-- byte strings are in the order of dictionaries
abbrev pub bytes_cmp : List ℕ → List ℕ → Ordering
bytes_cmp = slice_cmp nat_cmp

abbrev pub same_bytes : List ℕ → List ℕ → Bool
same_bytes = pointwise nat_eq

-- transactions are in the order of home, incarnation and number
abbrev pub tid_cmp : Tid → Tid → Ordering
tid_cmp s t = ordering_then (nat_cmp s.home.0 t.home.0) (ordering_then (nat_cmp s.inc t.inc) (nat_cmp s.seq t.seq))

abbrev pub same_tid : Tid → Tid → Bool
same_tid s t = (s.home.0 == t.home.0) && ((s.inc == t.inc) && (s.seq == t.seq))

-- members are in the order of node and server
abbrev pub member_cmp : Member → Member → Ordering
member_cmp m n = ordering_then (nat_cmp m.node.0 n.node.0) (nat_cmp m.server.0 n.server.0)

abbrev pub same_member : Member → Member → Bool
same_member m n = (m.node.0 == n.node.0) && (m.server.0 == n.server.0)
