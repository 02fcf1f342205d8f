-- A transaction sees what is committed under each name but those of its changes.
use Rattle.std.proofs.Common.{ℕ, List, sym, ◌∙◌}
use Rattle.qs_base.specs.declared.identifiers.Tid.{Tid}
use Rattle.qs_ops.specs.declared.share.Share.{Share}
use Rattle.qs_ops_shares.specs.Shares.{share_in}
use Rattle.qs_files_contents.specs.Slots.{Entries, slot_or_new, text_at}
use Rattle.qs_files_contents.specs.Sums.{ChangesAlone}
use Rattle.qs_files.specs.Held.{Follows}
use Rattle.qs_files.proofs.Following.{unchanged}
use Rattle.qs_files.proofs.Prepares.{seen-edited}

pub changes_alone : (slots : Entries) (shares : List (Tid × Share)) (tid : Tid) (committed : ℕ) → Follows slots shares committed → ChangesAlone tid slots (share_in shares tid).changes
changes_alone slots shares tid committed f = record {
  names = f.names;
  others = λ q none.
      let slot = slot_or_new slots q in
      seen-edited slot tid ∙ sym (f.texts tid q (text_at slot)) ∙ unchanged (share_in shares tid).changes q (text_at slot) none;
}
