-- What a restart makes of a table, field by field.
use Rattle.std.proofs.Common.{◌≡◌, ℕ, List, [], ◌∷◌, refl, sym, ap, ◌∙◌}
use Rattle.std.specs.List.{fold}
use Rattle.qs_base.specs.declared.identifiers.Tid.{Tid}
use Rattle.qs_ops.specs.declared.operation.Op.{Op}
use Rattle.qs_ops.specs.declared.file.File.{File}
use Rattle.qs_ops.specs.declared.share.Share.{Share}
use Rattle.qs_ops.specs.declared.share.KeptChanges.{KeptChanges}
use Rattle.qs_ops.specs.Table.{TableValue, apply_change, apply_note, applied, kept, restarted}
use Rattle.qs_book_tables.specs.Restarts.{keep_share, kept_shares}

fold-kept : (keeps : List KeptChanges) (table : TableValue) → fold kept table keeps ≡ record table { shares = fold keep_share table.shares keeps }
fold-kept [] table = refl
fold-kept (k ∷ keeps) table = fold-kept keeps (kept table k)

pub restarted-fields : (table : TableValue) (changes : List Op) (keeps : List KeptChanges) (contents : List File) (notes : List (List ℕ)) (shares : List (Tid × Share))
    → contents ≡ fold apply_change table.contents changes
    → notes ≡ fold apply_note table.notes changes
    → shares ≡ kept_shares keeps
    → record { contents = contents; notes = notes; shares = shares } ≡ restarted table changes keeps
restarted-fields table changes keeps contents notes shares c n s =
    let first : TableValue → TableValue = λ t. t in
    ap (λ (fs : List File). first (record { contents = fs; notes = notes; shares = shares })) c
    ∙ ap (λ (l : List (List ℕ)). first (record { contents = fold apply_change table.contents changes; notes = l; shares = shares })) n
    ∙ ap (λ (es : List (Tid × Share)). first (record { contents = fold apply_change table.contents changes; notes = fold apply_note table.notes changes; shares = es })) s
    ∙ sym (fold-kept keeps (record (applied table changes) { shares = [] }))
