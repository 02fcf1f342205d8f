-- What a map ends as, where a `&mut` to one of its values is returned.
use Rattle.std.specs.Prelude.{List, Option}
use Rattle.std.specs.Borrow.{LendsIf, Fml, RattleType, MutBor}
use Rattle.std.specs.BTreeMap.{is_at}
use Rattle.std.specs.BTreeMap.Lent.{OrdMembers}
use Rattle.std.specs.Map.{set_value}
use Rattle.qs_base_map.specs.contracts.map.Map.{the_row}

-- the map has, at that key, the last value written through r, and is unchanged where r is `None`
abbrev pub lends_get : (K V : RattleType) (g : OrdMembers K.Denot) → MutBor (List (K.Denot × V.Denot)) → K.Denot → Option (MutBor V.Denot) → Fml
lends_get K V g m key r =
    LendsIf (the_row K V (record { cmp = g.cmp }) (record { eq = g.eq }) (record { partial_cmp = g.partial_cmp })) V m r
    (λ w. set_value (is_at (g.cmp key)) m.now w)
    m.now
