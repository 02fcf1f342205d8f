-- Where nothing stands under any name, nobody holds anything.
use Rattle.std.proofs.Common.{◌≡◌, ℕ, List, [], refl, sym, subst, arith}
use Rattle.qs_base.specs.declared.identifiers.Tid.{Tid}
use Rattle.qs_base.proofs.TidOrder.{tid_total, tid_exact}
use Rattle.std.proofs.lemmas.Map.Lookups.{exact_bytes}
use Rattle.qs_ops.proofs.FileOrder.{bytes_total}
use Rattle.qs_ops.specs.declared.share.Share.{Share}
use Rattle.qs_files_contents.specs.Slots.{Entries}
use Rattle.qs_files_contents.proofs.Maps.{sorted_none}
use Rattle.qs_files_contents.proofs.Pieces.{joined-none}
use Rattle.qs_files.specs.Held.{IsKept}

kept_nothing : (capacity : ℕ) → IsKept [] [] 0 0 0 0 capacity
kept_nothing capacity = record {
  follows = record {
    names = sorted_none bytes_total exact_bytes;
    changers = λ q. sorted_none tid_total tid_exact;
    readers = λ q. sorted_none tid_total tid_exact;
    texts = λ tid q before. sym (joined-none before);
    reads = λ tid q. refl;
    added = λ tid q. omega (arith);
    pieces = λ q. omega (arith);
  };
  counted = record { counted = refl; few = omega (arith) };
  noted = record { waits = refl; room = omega (arith) };
}

pub kept_empty : (slots : Entries) (shares : List (Tid × Share)) (notes capacity : ℕ) → slots ≡ [] → shares ≡ [] → notes ≡ 0 → IsKept slots shares 0 0 0 notes capacity
kept_empty slots shares notes capacity a b c =
    subst (λ (x : Entries). IsKept x shares 0 0 0 notes capacity) (sym a)
    (subst (λ (x : List (Tid × Share)). IsKept [] x 0 0 0 notes capacity) (sym b)
    (subst (λ (x : ℕ). IsKept [] [] 0 0 0 x capacity) (sym c) (kept_nothing capacity)))
