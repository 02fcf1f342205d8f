-- Contents of coherent disks are coherent, and images of zeros; and of one disk it is what is said of the only disk of a run.
use Rattle.std.proofs.Common.{◌≡◌, ap, refl, subst, sym, ℕ, ◌+◌, ◌<◌, zero, suc, List, [], ◌∷◌, Option, Some, arith, replicate, slice_get}
use Rattle.std.specs.Prelude.{unwrap_or}
use Rattle.std.specs.Global.{Global}
use Rattle.qs_disk.specs.Disk.{DiskState, IsImage}
use Rattle.qs_log.proofs.Fresh.{fresh_area}
use Rattle.qs_log.specs.Image.{live_area}
use Rattle.qs_log_batch.proofs.AreaLemmas.{counted_one}
use Rattle.qs_slot.specs.Slot.{Present}
use Rattle.qs_world_left.proofs.SameBelow.{coherent_below}
use Rattle.qs_world_left.specs.Disks.{AreCoherentDisks, FreshAreCoherent, OneIsCoherent, content_by}
use Rattle.qs_world_left.specs.Left.{CoherentAreRead}
use Rattle.qs_world_opening.specs.Coherent.{AreCoherentLogs, IsCoherentDisk}

pub are_read : (disks : List DiskState) → CoherentAreRead disks
are_read disks read coherent alloc = coherent alloc (λ n. content_by (slice_get disks n)) (λ n disk is. subst (IsImage disk.now) (ap content_by (sym is)) (read n disk is))

pub fresh : ((alloc : Global) (size : ℕ) (incs : ℕ → ℕ) → AreCoherentLogs alloc size incs (λ n. [])) → (alloc : Global) (size : ℕ) (lengths : ℕ → ℕ) → FreshAreCoherent alloc size lengths
fresh empty alloc size lengths presents records show =
    coherent_below alloc size (λ n. (presents n).value.inc + 1) (λ n. (presents n).value.inc + 1) (λ n. []) records (λ n low. refl) none (empty alloc size (λ n. (presents n).value.inc + 1))
  where
    none : (n : ℕ) → n < size → records n ≡ []
    none n low = let p : Present = presents n in
        (counted_one p.value.format (live_area p.value.generation (replicate (lengths n) 0)) (records n) [] (show n low).used 0 (show n low).log.counted (fresh_area p.value.format p.value.generation (lengths n))).0

-- ---- one disk

at_first : (P : ℕ → Type 0) → P 0 → (n : ℕ) → n < 1 → P n
at_first P first zero low = first
at_first P first (suc n) low = absurd (omega (arith, low))

alone : (disk : DiskState) → AreCoherentDisks (disk ∷ []) → IsCoherentDisk disk
alone disk coherent alloc image at present records used log =
    coherent alloc (λ n. image) of (λ n. present) (λ n. records) (λ n low. record { used = used; log = log })
  where
    of : (n : ℕ) (other : DiskState) → slice_get (disk ∷ []) n ≡ Some other → IsImage other.now image
    of zero other is = subst (λ (d : DiskState). IsImage d.now image) (ap (λ (o : Option DiskState). unwrap_or o disk) is) at
    of (suc n) other is = absurd (cc is)

among : (disk : DiskState) → IsCoherentDisk disk → AreCoherentDisks (disk ∷ [])
among disk coherent alloc images of presents records show =
    coherent_below alloc 1 (λ n. (presents 0).value.inc + 1) (λ n. (presents n).value.inc + 1) (λ n. records 0) records
    (at_first (λ n. ((presents n).value.inc + 1) ≡ ((presents 0).value.inc + 1)) refl) (at_first (λ n. records n ≡ records 0) refl)
    (coherent alloc (images 0) (of 0 disk refl) (presents 0) (records 0) (show 0 (omega arith)).used (show 0 (omega arith)).log)

pub one_is_coherent : (disk : DiskState) → OneIsCoherent disk
one_is_coherent disk = record { alone = alone disk; among = among disk }
