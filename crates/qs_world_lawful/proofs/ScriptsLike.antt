-- The machine has the scripts of all clients after a crash, a restart and a first meeting: lines and labels are left, and a node that restarts
-- has nothing in hand.
use Rattle.qs_world_lawful.proofs.Words.{◌≡◌, ℕ, ◌==◌, zero, suc, Bool, true, false, List, [], ◌∷◌, Some, refl, sym, ap, subst, ◌∙◌, nat_lt, if◌then◌else◌, slice_get, lookup, is_at, ScriptLine, BookValue, is_fresh, book_after, Owner, client_cmp, OpenCommand, Meet, moved, stopped, stopped_host, are_rising, labels_begun, Opening, World, Every, AreBehind, HoldsClient, IsFresh, eqb-true}
use Rattle.qs_world.specs.Moves.{client_count}
use Rattle.qs_world.specs.Openings.{all_below, are_apart}
use Rattle.qs_world.specs.World.{Client}
use Rattle.qs_world_lawful.specs.Scripts.{HoldsScripts, IsInHand, IsRest}
use Rattle.qs_world_lawful.specs.WayLaws.{EachCrashKeepsScripts, EachMeetKeepsScripts, crash_entry}
use Rattle.qs_world_lawful.proofs.LogFrames.{every_on}

all_same : {A : Type 0} (n : ℕ) (f g : ℕ → List A) → ((k : ℕ) → f k ≡ g k) → all_below n f ≡ all_below n g
all_same zero f g same = refl
all_same (suc n) f g same = rw (all_same n f g same, same n) refl

-- the owners have their lines on
abbrev pub KeepsLines : BookValue → BookValue → Type 0
KeepsLines book now = (k : ℕ) (owner : Owner) → slice_get book.owners k ≡ Some owner → (later : Owner) × (slice_get now.owners k ≡ Some later) × (later.line ≡ owner.line)

-- what a node has in hand is the first line of its client
abbrev pub HoldsHand : World → ℕ → Type 0
HoldsHand world k = (n : ℕ) → nat_lt n world.size ≡ true → world.channels.up n ≡ true → (command : OpenCommand) → lookup (is_at (client_cmp (record { 0 = k }))) (world.hosts n).node.commands ≡ Some command
    → ((world.clients k).at ≡ n) × IsInHand (world.clients k) (Some command)

module _ (o : Opening) (book now : BookValue) (world next : World) (labels : now.labels ≡ book.labels) (lines : KeepsLines book now)
    (at_same : (k : ℕ) → (next.clients k).at ≡ (world.clients k).at) (lines_same : (k : ℕ) → (next.clients k).lines ≡ (world.clients k).lines)
    (hand : (k : ℕ) → HoldsHand world k → HoldsHand next k) where
  client_like : (k : ℕ) → HoldsClient o book world k → HoldsClient o now next k
  client_like k c = record {
    at = at_same k ∙ c.at;
    rest = subst (λ (ls : List ScriptLine). IsRest (o.clients k).1 ls) (sym (lines_same k)) c.rest;
    behind = subst (λ (ls : List ScriptLine). AreBehind now k ls) (sym (lines_same k)) (behind c.behind);
    fresh = subst (λ (ls : List ScriptLine). Every (IsFresh now) (labels_begun ls)) (sym (lines_same k))
        (every_on (IsFresh book) (IsFresh now) (λ label is. ap (λ ls. is_fresh ls label) labels ∙ is) (labels_begun (world.clients k).lines) c.fresh);
    in_hand = hand k c.in_hand;
  }
    where
      behind : AreBehind book k (world.clients k).lines → AreBehind now k (world.clients k).lines
      behind b = let p = lines k b.owner b.there in record { owner = p.0; there = p.1; rise = ap (λ (n : ℕ). are_rising n (world.clients k).lines) p.2 ∙ b.rise }

  pub scripts_like : HoldsScripts o book world → HoldsScripts o now next
  scripts_like h = record {
    clients = λ k low. client_like k (h.clients k low);
    apart = ap are_apart (all_same client_count (λ k. labels_begun (next.clients k).lines) (λ k. labels_begun (world.clients k).lines) (λ k. ap labels_begun (lines_same k))) ∙ h.apart;
  }

pub lines_self : (book : BookValue) → KeepsLines book book
lines_self book k owner is = (owner, is, refl)

-- ---- a crash

back_at : (b : Bool) (client : Client) → (if b then record client { is_handed = false } else client).at ≡ client.at
back_at true client = refl
back_at false client = refl

back_lines : (b : Bool) (client : Client) → (if b then record client { is_handed = false } else client).lines ≡ client.lines
back_lines true client = refl
back_lines false client = refl

pub crash_scripts : EachCrashKeepsScripts
crash_scripts o book world n stamp cause log h =
    scripts_like o book (book_after book (crash_entry n stamp cause ∷ [])) world (stopped world n stamp cause log) refl (lines_self book) (λ k. back_at ((world.clients k).at == n) (world.clients k)) (λ k. back_lines ((world.clients k).at == n) (world.clients k)) hand h
  where
    hand : (k : ℕ) → HoldsHand world k → HoldsHand (stopped world n stamp cause log) k
    hand k before j within up command is = by (j == n) refl up is
      where
        by : (b : Bool) → (j == n) ≡ b → (if b then false else world.channels.up j) ≡ true → lookup (is_at (client_cmp (record { 0 = k }))) (if b then stopped_host stamp log (world.hosts n) else world.hosts j).node.commands ≡ Some command
            → ((if (world.clients k).at == n then record (world.clients k) { is_handed = false } else world.clients k).at ≡ j) × IsInHand (if (world.clients k).at == n then record (world.clients k) { is_handed = false } else world.clients k) (Some command)
        by true near e there = absurd (cc e)
        by false far e there =
            let p = before j within e command there in
            subst (λ (b : Bool). ((if b then record (world.clients k) { is_handed = false } else world.clients k).at ≡ j) × IsInHand (if b then record (world.clients k) { is_handed = false } else world.clients k) (Some command)) (sym (ap (λ (m : ℕ). m == n) p.0 ∙ far)) p

-- ---- a first meeting

pub meet_scripts : EachMeetKeepsScripts
meet_scripts o book world n stamp m inc h = scripts_like o book book world (moved (Meet n stamp m inc) world) refl (lines_self book) (λ k. refl) (λ k. refl) hand h
  where
    hand : (k : ℕ) → HoldsHand world k → HoldsHand (moved (Meet n stamp m inc) world) k
    hand k before j within up command is = before j within up command (by (j == n) refl is)
      where
        by : (b : Bool) → (j == n) ≡ b → lookup (is_at (client_cmp (record { 0 = k }))) (if b then record (world.hosts n) { stamp = stamp } else world.hosts j).node.commands ≡ Some command → lookup (is_at (client_cmp (record { 0 = k }))) (world.hosts j).node.commands ≡ Some command
        by true near there = subst (λ (i : ℕ). lookup (is_at (client_cmp (record { 0 = k }))) (world.hosts i).node.commands ≡ Some command) (sym (eqb-true j n near)) there
        by false far there = there
