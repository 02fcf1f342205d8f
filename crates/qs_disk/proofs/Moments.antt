-- Facts that hold of each image over a stretch of calls, and what each call leaves of them.
use Rattle.std.proofs.Common.{◌≡◌, ◌≤◌, ◌+◌, ℕ, Bool, true, IsTrue, List, [], ◌∷◌, ◌++◌, length, take, drop, inl, inr, refl, sym, ◌∙◌, ap, subst, arith, append_assoc}
use Rattle.std.proofs.lemmas.List.{append-nil, length-take-le}
use Rattle.qs_disk.specs.Disk.{Frame, DiskState, EachImage, IsStill, AllWere, Elapses, Torn, with_range, Reads, Writes, Syncs, Cuts}
use Rattle.qs_disk.specs.Moments.{AtEach, Keeps}
use Rattle.qs_disk.proofs.Ranges.{take_seams, drop_seams, length_put}

-- lists of frames

at_each_were : (P : List ℕ → Type 0) (f : Frame) → EachImage P f → (fs : List Frame) → AllWere f fs → AtEach P fs
at_each_were P f here [] were = tt
at_each_were P f here (g ∷ fs) were = (subst (EachImage P) (sym (were.0)) here, at_each_were P f here fs (were.1))

at_each_append : (P : List ℕ → Type 0) (fs gs : List Frame) → AtEach P fs → AtEach P gs → AtEach P (fs ++ gs)
at_each_append P [] gs p q = q
at_each_append P (f ∷ fs) gs p q = (p.0, at_each_append P fs gs (p.1) q)

at_each_weaken : (P Q : List ℕ → Type 0) → ((c : List ℕ) → P c → Q c) → (fs : List Frame) → AtEach P fs → AtEach Q fs
at_each_weaken P Q weak [] p = tt
at_each_weaken P Q weak (f ∷ fs) p = ((λ c image. weak c (p.0 c image)), at_each_weaken P Q weak fs (p.1))

-- stretches

-- no call yet
pub keeps_none : (P : List ℕ → Type 0) (s : DiskState) → EachImage P s.now → Keeps P s s
keeps_none P s here = record { between = []; grows = sym (append-nil s.past); each = tt; here = here }

-- one call
pub keeps_begun : (P : List ℕ → Type 0) (a b : DiskState) → EachImage P a.now → Elapses a b → EachImage P b.now → Keeps P a b
keeps_begun P a b before time after =
    record { between = time.between; grows = time.grows; each = at_each_were P a.now before time.between time.were; here = after }

-- two stretches, one after the other
pub keeps_trans : (P : List ℕ → Type 0) (a b c : DiskState) → Keeps P a b → Keeps P b c → Keeps P a c
keeps_trans P a b c p q = record {
  between = p.between ++ q.between;
  grows = q.grows ∙ ap (λ (fs : List Frame). fs ++ q.between) p.grows ∙ append_assoc a.past p.between q.between;
  each = at_each_append P p.between q.between p.each q.each;
  here = q.here;
}

-- a stretch and a call after it
pub keeps_on : (P : List ℕ → Type 0) (a b c : DiskState) → Keeps P a b → Elapses b c → EachImage P c.now → Keeps P a c
keeps_on P a b c p time after = keeps_trans P a b c p (keeps_begun P b c p.here time after)

-- a weaker fact
pub keeps_weaken : (P Q : List ℕ → Type 0) (a b : DiskState) → ((c : List ℕ) → P c → Q c) → Keeps P a b → Keeps Q a b
keeps_weaken P Q a b weak p = record {
  between = p.between;
  grows = p.grows;
  each = at_each_weaken P Q weak p.between p.each;
  here = λ c image. weak c (p.here c image);
}

-- disks that are still

-- what holds of the content holds of each image of a disk that is still
pub each_still : (P : List ℕ → Type 0) (s : DiskState) → IsStill s → P s.content → EachImage P s.now
each_still P s still here c image = subst P (sym (still c image)) here

-- nothing is torn
pub torn_none : (at count : ℕ) (bytes : List ℕ) → Torn at count bytes bytes
torn_none at count bytes = record { before = refl; after = refl; as_long = refl }

-- reads

pub read_here : (P : List ℕ → Type 0) (at : ℕ) (bytes : List ℕ) (ok : Bool) (a b : DiskState) → EachImage P a.now → Reads at bytes ok a b → EachImage P b.now
read_here P at bytes ok a b here r c image = here c (r.images c image)

pub read_keeps : (P : List ℕ → Type 0) (at : ℕ) (bytes : List ℕ) (ok : Bool) (a b : DiskState) → EachImage P a.now → Reads at bytes ok a b → Keeps P a b
read_keeps P at bytes ok a b here r = keeps_begun P a b here r.time (read_here P at bytes ok a b here r)

pub read_still : (at : ℕ) (bytes : List ℕ) (ok : Bool) (a b : DiskState) → IsStill a → Reads at bytes ok a b → IsStill b
read_still at bytes ok a b still r c image = still c (r.images c image) ∙ sym r.content

-- syncs

-- what holds of each image and of the content, where the disk is synced or the sync fails
pub synced_here : (P : List ℕ → Type 0) (ok : Bool) (a b : DiskState) → EachImage P a.now → P a.content → Syncs ok a b → EachImage P b.now
synced_here P ok a b here content s c image =
    elim (s.images c image) [ inl old ↦ here c old | inr same ↦ subst P (sym same) content ]

pub sync_keeps : (P : List ℕ → Type 0) (ok : Bool) (a b : DiskState) → EachImage P a.now → P a.content → Syncs ok a b → Keeps P a b
sync_keeps P ok a b here content s = keeps_begun P a b here s.time (synced_here P ok a b here content s)

-- also a sync that fails leaves a disk still
pub sync_still : (ok : Bool) (a b : DiskState) → IsStill a → Syncs ok a b → IsStill b
sync_still ok a b still s c image = synced_here (λ (d : List ℕ). d ≡ a.content) ok a b still refl s c image ∙ sym s.content

-- power cuts

pub cut_here : (P : List ℕ → Type 0) (ok : Bool) (a b : DiskState) → EachImage P a.now → Cuts ok a b → EachImage P b.now
cut_here P ok a b here s c image = here c (s.images c image)

pub cut_keeps : (P : List ℕ → Type 0) (ok : Bool) (a b : DiskState) → EachImage P a.now → Cuts ok a b → Keeps P a b
cut_keeps P ok a b here s = keeps_begun P a b here s.time (cut_here P ok a b here s)

-- the content after a power cut
pub cut_content : (P : List ℕ → Type 0) (ok : Bool) (a b : DiskState) → EachImage P a.now → Cuts ok a b → IsTrue ok → P b.content
cut_content P ok a b here s done = here b.content (s.left done)

-- writes

-- after a write to a disk that is still, also one that fails, each image is torn in the range alone
pub wrote_torn : (at : ℕ) (bytes : List ℕ) (ok : Bool) (a b : DiskState) → IsStill a → Writes at bytes ok a b → EachImage (Torn at (length bytes) a.content) b.now
wrote_torn at bytes ok a b still w c image =
    let (d, old, torn) = w.images c image in subst (λ (e : List ℕ). Torn at (length bytes) e c) (still d old) torn

-- the bytes written are such a tear too
pub torn_with_range : (at : ℕ) (bytes old : List ℕ) → at + length bytes ≤ length old → Torn at (length bytes) old (with_range old at bytes)
torn_with_range at bytes old fits =
    let long : length (take at old) ≡ at = length-take-le at old (omega arith) in
    record {
      before = take_seams at (take at old) bytes (drop (at + length bytes) old) long;
      after = drop_seams (at + length bytes) (take at old) bytes (drop (at + length bytes) old) (omega arith);
      as_long = length_put at (at + length bytes) old bytes fits refl;
    }

-- a write that returned, and its sync

-- each image at the end of a write and of the sync after it
pub synced_torn : (at : ℕ) (bytes : List ℕ) (ok : Bool) (a b c : DiskState) → IsStill a → at + length bytes ≤ length a.content → Writes at bytes true a b → Syncs ok b c → EachImage (Torn at (length bytes) a.content) c.now
synced_torn at bytes ok a b c still fits w s =
    synced_here (Torn at (length bytes) a.content) ok b c (wrote_torn at bytes true a b still w)
    (subst (Torn at (length bytes) a.content) (sym (w.written refl)) (torn_with_range at bytes a.content fits)) s

-- a write to a disk that is still, also one that fails
pub wrote : (at : ℕ) (bytes : List ℕ) (ok : Bool) (a b : DiskState) → IsStill a → Writes at bytes ok a b → Keeps (Torn at (length bytes) a.content) a b
wrote at bytes ok a b still w =
    keeps_begun (Torn at (length bytes) a.content) a b
    (each_still (Torn at (length bytes) a.content) a still (torn_none at (length bytes) a.content)) w.time (wrote_torn at bytes ok a b still w)

-- a write that returned, and a sync, also one that fails
pub wrote_through : (at : ℕ) (bytes : List ℕ) (ok : Bool) (a b c : DiskState) → IsStill a → at + length bytes ≤ length a.content → Writes at bytes true a b → Syncs ok b c → Keeps (Torn at (length bytes) a.content) a c
wrote_through at bytes ok a b c still fits w s =
    keeps_on (Torn at (length bytes) a.content) a b c (wrote at bytes true a b still w) s.time (synced_torn at bytes ok a b c still fits w s)
