-- Images while a slot is written.
use Rattle.std.proofs.Common.{◌≡◌, ◌+◌, inl, inr, ℕ, List, length, subst}
use Rattle.qs_disk.specs.Disk.{DiskState, Torn, with_range}
use Rattle.qs_disk.specs.Moments.{Keeps}
use Rattle.qs_disk.proofs.Moments.{keeps_weaken, keeps_trans}
use Rattle.qs_slot.specs.Body.{staged, IsWriting}

pub closing_keeps : (place : ℕ) (closing body : List ℕ) (a b : DiskState) → Keeps (Torn place (length closing) a.content) a b → Keeps (IsWriting place closing body a.content) a b
closing_keeps place closing body a b k =
    keeps_weaken (Torn place (length closing) a.content) (IsWriting place closing body a.content) a b (λ c torn. inl torn) k

pub filling_keeps : (place : ℕ) (closing body : List ℕ) (a b c : DiskState) → Keeps (Torn place (length closing) a.content) a b
    → b.content ≡ with_range a.content place closing → Keeps (Torn (place + 1) (length body) b.content) b c → Keeps (IsWriting place closing body a.content) a c
filling_keeps place closing body a b c k e l =
    keeps_trans (IsWriting place closing body a.content) a b c (closing_keeps place closing body a b k)
    (keeps_weaken (Torn (place + 1) (length body) b.content) (IsWriting place closing body a.content) b c
    (λ image torn. inr (inl (subst (λ (bytes : List ℕ). Torn (place + 1) (length body) bytes image) e torn))) l)

pub opening_keeps : (place : ℕ) (closing body : List ℕ) (a b c d : DiskState) → Keeps (Torn place (length closing) a.content) a b
    → b.content ≡ with_range a.content place closing → Keeps (Torn (place + 1) (length body) b.content) b c
    → c.content ≡ with_range b.content (place + 1) body → Keeps (Torn place 1 c.content) c d → Keeps (IsWriting place closing body a.content) a d
opening_keeps place closing body a b c d k e l f m =
    keeps_trans (IsWriting place closing body a.content) a c d (filling_keeps place closing body a b c k e l)
    (keeps_weaken (Torn place 1 c.content) (IsWriting place closing body a.content) c d (λ image torn. inr (inr (opened image torn))) m)
  where
    opened : (image : List ℕ) → Torn place 1 c.content image → Torn place 1 (staged place closing body a.content) image
    opened image torn =
        subst (λ (bytes : List ℕ). Torn place 1 (with_range bytes (place + 1) body) image) e
        (subst (λ (bytes : List ℕ). Torn place 1 bytes image) f torn)
