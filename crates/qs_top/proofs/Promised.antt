-- What is promised of a run by the rounds that its nodes made is promised without them.
use Rattle.std.proofs.Common.{◌⊎◌, ℕ, inl, inr, List, map, Option}
use Rattle.std.specs.Prelude.{⊤}
use Rattle.qs_base.specs.declared.identifiers.NodeNo.{NodeNo}
use Rattle.qs_book_journal.specs.declared.entry.Entry.{Entry}
use Rattle.qs_book_script.specs.declared.script.Script.{Script}
use Rattle.qs_book_script.specs.declared.status.Status.{Status}
use Rattle.qs_disk.specs.Disk.{DiskState}
use Rattle.qs_node_step.specs.declared.trace.Step.{Step}
use Rattle.qs_text.specs.declared.given.Shown.{Shown}
use Rattle.qs_top.specs.Disks.{IsOnlyTouched, OfThese}
use Rattle.qs_top.specs.Ran.{RanNotBegun, RanRefused, RanShort, RanWhole, opened_in}
use Rattle.qs_top.specs.Run.{IsNotBegun, IsRefused, IsShort, IsWhole}
use Rattle.qs_top.specs.Texts.{HasText, OfScript}
use Rattle.qs_top.proofs.NodesLeft.{each_of}
use Rattle.qs_top.proofs.TextLemmas.{map_text}
use Rattle.qs_world_left.specs.Standing.{up_at}
use Rattle.qs_world_serial.specs.Serial.{IsTouchedUpTo}

-- ---- of the disks of a run, by its text

map_these : {D : Type 0} (nodes : ℕ) (P Q : List D → List D → Type 0) (old new : List D) → ((disks afters : List D) → P disks afters → Q disks afters) → OfThese nodes P old new → OfThese nodes Q old new
map_these nodes P Q old new more these = record {
  disks = these.disks;
  afters = these.afters;
  rest = these.rest;
  old_is = these.old_is;
  new_is = these.new_is;
  count = these.count;
  count_after = these.count_after;
  holds = more these.disks these.afters these.holds;
}

pub promised : {D : Type 0} (l m : Option (List ℕ)) (shown : Shown) (nodes : ℕ) (old new : List D) (P Q : Script → List D → List D → Type 0) → ((script : Script) (disks afters : List D) → P script disks afters → Q script disks afters)
    → HasText shown l m (OfScript nodes (λ script. OfThese nodes (P script) old new)) → HasText shown l m (OfScript nodes (λ script. OfThese nodes (Q script) old new))
promised l m shown nodes old new P Q more has = map_text l m shown (OfScript nodes (λ script. OfThese nodes (P script) old new)) (OfScript nodes (λ script. OfThese nodes (Q script) old new))
    (λ text of. record { script = of.script; read = of.read; holds = map_these nodes (P of.script) (Q of.script) old new (more of.script) of.holds }) has

-- where memory was refused behind the script, it was read
pub out_of : {D : Type 0} (l m : Option (List ℕ)) (shown : Shown) (nodes : ℕ) (old new : List D) (P : List D → List D → Type 0) (Q : Script → List D → List D → Type 0)
    → OfThese nodes P old new ⊎ HasText shown l m (OfScript nodes (λ script. OfThese nodes (Q script) old new)) → OfThese nodes P old new ⊎ HasText shown l m (OfScript nodes (λ script. ⊤))
out_of l m shown nodes old new P Q (inl these) = inl these
out_of l m shown nodes old new P Q (inr has) = inr (map_text l m shown (OfScript nodes (λ script. OfThese nodes (Q script) old new)) (OfScript nodes (λ script. ⊤)) (λ text of. record { script = of.script; read = of.read; holds = tt }) has)

-- ---- each end

module _ {D : Type 0} (told : Type 0) (state : D → DiskState) (own size : D → ℕ) (seed nodes : ℕ) where
  pub whole_of : (shown : Shown) (Has : Status → Type 0) (Gave : List ℕ → Type 0) (journal : List Entry) (trace : List Step) (script : Script) (disks afters : List D)
      → RanWhole told state own size seed nodes script shown Has Gave journal trace disks afters → IsWhole told state nodes script shown Has Gave journal trace disks afters
  whole_of shown Has Gave journal trace script disks afters r = record {
    opened = map opened_in r.tells;
    ups = up_at r.ran.last.sites;
    is_told = r.is_told;
    rounds = r.ending.rounds;
    settled = r.ending.settled;
    status = r.status;
    gave = r.gave;
  }

  short_of : (node : NodeNo) (journal : List Entry) (trace : List Step) (script : Script) (disks afters : List D)
      → RanShort told state own size seed nodes script node journal trace disks afters → IsShort told state nodes script journal trace disks afters
  short_of node journal trace script disks afters r = record { opened = map opened_in r.tells; ups = up_at r.ran.last.sites; is_told = r.is_told }

  pub cut_of : (node : NodeNo) (journal : List Entry) (trace : List Step) (script : Script) (disks afters : List D)
      → RanNotBegun told state own size node journal trace disks afters ⊎ RanShort told state own size seed nodes script node journal trace disks afters
      → IsNotBegun told state journal trace disks afters ⊎ IsShort told state nodes script journal trace disks afters
  cut_of node journal trace script disks afters (inl none) = inl (record {
    nothing = none.nothing;
    touched = each_of (λ n. IsTouchedUpTo told state size node.0 n) (λ n disk after. IsOnlyTouched told state disk after) disks afters (λ n a b t. t.touched.moments) none.not.each;
  })
  cut_of node journal trace script disks afters (inr r) = inr (short_of node journal trace script disks afters r)

  pub refused_of : (line clause : ℕ) (script : Script) (disks afters : List D) → RanRefused told state own size seed nodes script line clause disks afters → IsRefused told state nodes script line clause disks afters
  refused_of line clause script disks afters r = record { opened = map opened_in r.tells; journal = r.journal; held = r.held; refused = r.refused; by_script = r.by_script }
