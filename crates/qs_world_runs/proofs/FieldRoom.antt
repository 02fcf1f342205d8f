-- What a field in the middle of a step has room for, as numbers: what waits, what is on its way, and what is kept back.
use Rattle.qs_world_runs.proofs.Words.{◌≡◌, ℕ, ◌+◌, ◌≤◌, ◌==◌, ◌&&◌, not, Bool, true, false, refl, arith, if◌then◌else◌, ServerNo, Tid, RequestNo, Work, sent_to, Field, asked, waiting, field_amid}
use Rattle.qs_world_runs.specs.PlacesAmid.{counted}
use Rattle.qs_world_runs.proofs.PlacedAmid.{kept_amid, room, there_amid}
use Rattle.qs_world_runs.proofs.PlacedTx.{Grows, back, there}

pub room_more : (h g s : Bool) (w v x a b p q : ℕ) → w ≤ v → p ≤ q → room h g s w x a b p ≤ room h g s v x a b q
room_more true true true w v x a b p q r e = omega (arith, r, e)
room_more true true false w v x a b p q r e = omega (arith, r, e)
room_more true false true w v x a b p q r e = omega (arith, r, e)
room_more true false false w v x a b p q r e = omega (arith, r, e)
room_more false true true w v x a b p q r e = omega (arith, r, e)
room_more false true false w v x a b p q r e = omega (arith, r, e)
room_more false false true w v x a b p q r e = omega (arith, r, e)
room_more false false false w v x a b p q r e = omega (arith, r, e)

room_here : (h g s : Bool) (w v x a b p q k : ℕ) → h ≡ true → v ≡ w + k → p ≤ q → room h g s w x a b p + k ≤ room h g s v x a b q
room_here true true true w v x a b p q k so r e = omega (arith, r, e)
room_here true true false w v x a b p q k so r e = omega (arith, r, e)
room_here true false true w v x a b p q k so r e = omega (arith, r, e)
room_here true false false w v x a b p q k so r e = omega (arith, r, e)
room_here false g s w v x a b p q k so r e = absurd (cc so)

room_goes : (h g s : Bool) (w v x a b p q k : ℕ) → g ≡ true → w ≤ v → q ≡ p + k → room h g s w x a b p + k ≤ room h g s v x a b q
room_goes true true true w v x a b p q k so r e = omega (arith, r, e)
room_goes true true false w v x a b p q k so r e = omega (arith, r, e)
room_goes false true true w v x a b p q k so r e = omega (arith, r, e)
room_goes false true false w v x a b p q k so r e = omega (arith, r, e)
room_goes h false s w v x a b p q k so r e = absurd (cc so)

room_stays : (h g s : Bool) (w v x a b p q k : ℕ) → s ≡ true → w ≤ v → q ≡ p + k → room h g s w x a b p + k ≤ room h g s v x a b q
room_stays true true true w v x a b p q k so r e = omega (arith, r, e)
room_stays true false true w v x a b p q k so r e = omega (arith, r, e)
room_stays false true true w v x a b p q k so r e = omega (arith, r, e)
room_stays false false true w v x a b p q k so r e = omega (arith, r, e)
room_stays h g false w v x a b p q k so r e = absurd (cc so)

back_more : (s : Bool) (b p q : ℕ) → p ≤ q → b + (if s then p else 0) ≤ b + (if s then q else 0)
back_more true b p q e = omega (arith, e)
back_more false b p q e = omega arith

back_stays : (s : Bool) (b p q k : ℕ) → s ≡ true → q ≡ p + k → b + (if s then p else 0) + k ≤ b + (if s then q else 0)
back_stays true b p q k so e = omega (arith, e)
back_stays false b p q k so e = absurd (cc so)

-- ---- the field has at least as much room where as many wait and were sent, or more

pub less_by : {a b c d : ℕ} → a ≡ b → c ≡ d → b ≤ d → a ≤ c
less_by p q e = rw (p, q) e

plus_by : {a b c d : ℕ} (k : ℕ) → a ≡ b → c ≡ d → b + k ≤ d → a + k ≤ c
plus_by k p q e = rw (p, q) e

module _ (t : Tid) (base : Field) (knows : ℕ → ℕ) (n : ℕ) (work new : Work) (at : RequestNo) (server : ServerNo) where
  abbrev old_field : Field
  old_field = field_amid base knows n work

  abbrev new_field : Field
  new_field = field_amid base knows n new

  abbrev own : Bool
  own = at.link.to.0 == n

  abbrev pub goes_now : Bool
  goes_now = (at.link.from.0 == n) && ((knows at.link.to.0 == base.inc at.link.to.0) && not (knows at.link.to.0 == 0))

  abbrev pub stays_back : Bool
  stays_back = (at.link.from.0 == n) && (knows at.link.to.0 == 0)

  abbrev on_way : ℕ
  on_way = asked t server at.number (base.sent at.link.from.0 at.link.to.0)

  abbrev pub posted_by : Work → ℕ
  posted_by w = asked t server at.number (sent_to at.link.to.0 w.out.messages)

  pub same_more : counted t at server work.node ≤ counted t at server new.node → posted_by work ≤ posted_by new → there t old_field at server ≤ there t new_field at server
  same_more p q = less_by (there_amid t base knows n work at server) (there_amid t base knows n new at server)
      (room_more own goes_now stays_back (counted t at server work.node) (counted t at server new.node) (waiting t base at server) on_way (back t base at server) (posted_by work) (posted_by new) p q)

  pub same_back : posted_by work ≤ posted_by new → back t old_field at server ≤ back t new_field at server
  same_back q = less_by (kept_amid t base knows n work at server) (kept_amid t base knows n new at server) (back_more stays_back (back t base at server) (posted_by work) (posted_by new) q)

  pub here_more : (k : ℕ) → own ≡ true → counted t at server new.node ≡ counted t at server work.node + k → posted_by work ≤ posted_by new → there t old_field at server + k ≤ there t new_field at server
  here_more k o p q = plus_by k (there_amid t base knows n work at server) (there_amid t base knows n new at server)
      (room_here own goes_now stays_back (counted t at server work.node) (counted t at server new.node) (waiting t base at server) on_way (back t base at server) (posted_by work) (posted_by new) k o p q)

  pub goes_more : (k : ℕ) → goes_now ≡ true → counted t at server work.node ≤ counted t at server new.node → posted_by new ≡ posted_by work + k → there t old_field at server + k ≤ there t new_field at server
  goes_more k o p q = plus_by k (there_amid t base knows n work at server) (there_amid t base knows n new at server)
      (room_goes own goes_now stays_back (counted t at server work.node) (counted t at server new.node) (waiting t base at server) on_way (back t base at server) (posted_by work) (posted_by new) k o p q)

  pub stays_more : (k : ℕ) → stays_back ≡ true → counted t at server work.node ≤ counted t at server new.node → posted_by new ≡ posted_by work + k → there t old_field at server + k ≤ there t new_field at server
  stays_more k o p q = plus_by k (there_amid t base knows n work at server) (there_amid t base knows n new at server)
      (room_stays own goes_now stays_back (counted t at server work.node) (counted t at server new.node) (waiting t base at server) on_way (back t base at server) (posted_by work) (posted_by new) k o p q)

  pub more_back : (k : ℕ) → stays_back ≡ true → posted_by new ≡ posted_by work + k → back t old_field at server + k ≤ back t new_field at server
  more_back k o q = plus_by k (kept_amid t base knows n work at server) (kept_amid t base knows n new at server) (back_stays stays_back (back t base at server) (posted_by work) (posted_by new) k o q)

module _ (t : Tid) (base : Field) (knows : ℕ → ℕ) (n : ℕ) (work new : Work) where
  pub more_grows : ((at : RequestNo) (server : ServerNo) → counted t at server work.node ≤ counted t at server new.node)
      → ((q : ℕ) (server : ServerNo) (number : ℕ) → asked t server number (sent_to q work.out.messages) ≤ asked t server number (sent_to q new.out.messages)) → Grows t (field_amid base knows n work) (field_amid base knows n new)
  more_grows waits asks = record {
    nodes = record { size = refl; up = λ k. refl; inc = λ k. refl };
    room = λ at. record {
      runs = λ up server. same_more t base knows n work new at server (waits at server) (asks at.link.to.0 server at.number);
      stopped = λ off server. same_back t base knows n work new at server (asks at.link.to.0 server at.number);
    };
  }
