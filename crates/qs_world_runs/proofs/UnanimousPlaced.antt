-- A transaction that is unanimous is placed whatever nodes and channels have: no request of it stands, and each life agrees.
use Rattle.qs_world_runs.proofs.Words.{◌≡◌, inr, ℕ, ◌<◌, Bool, true, false, List, [], ◌∷◌, refl, sym, subst, is_at, find, list_all, is_some, same_member, Member, ServerNo, Tid, TransactionValue, agrees, is_served, is_standing, is_unanimous, request_cmp, requests_in, Life, Part, Request, RequestNo, at_server, Field, standing, IsPlaced, EachPlaced, EachLives, Placed, zero_least, and_parts}
use Rattle.qs_base_lemmas.proofs.Tests.{and_not}

-- what was served stands nowhere
pub none_stands : (at : RequestNo) (server : ServerNo) (requests : List Request) → list_all is_served requests ≡ true → standing at server requests ≡ 0
none_stands at server [] all = refl
none_stands at server (request ∷ requests) all = by (none_stands at server requests both.1)
  where
    both : (request.served ≡ true) × (list_all is_served requests ≡ true)
    both = and_parts request.served (list_all is_served requests) all

    by : standing at server requests ≡ 0 → standing at server (request ∷ requests) ≡ 0
    by more = let stands : is_standing (at_server at.link.to server) request ≡ false = and_not (same_member request.member (at_server at.link.to server)) request.served both.0 in rw stands more

none_in : (member : Member) (requests : List Request) → list_all is_served requests ≡ true → is_some (find (is_standing member) requests) ≡ true → ⊥
none_in member [] all stands = cc stands
none_in member (request ∷ requests) all stands = by (is_standing member request) refl stands (none_in member requests both.1)
  where
    both : (request.served ≡ true) × (list_all is_served requests ≡ true)
    both = and_parts request.served (list_all is_served requests) all

    by : (b : Bool) → is_standing member request ≡ b → is_some (find (is_standing member) (request ∷ requests)) ≡ true → (is_some (find (is_standing member) requests) ≡ true → ⊥) → ⊥
    by true is stands more = let none : is_standing member request ≡ false = and_not (same_member request.member member) request.served both.0 in cc (is, none)
    by false is stands more = more (rw is at stands)

none_standing : (at : RequestNo) (member : Member) (entries : List (RequestNo × List Request)) → list_all (λ (entry : RequestNo × List Request). list_all is_served entry.1) entries ≡ true → is_some (find (is_standing member) (requests_in entries at)) ≡ true → ⊥
none_standing at member [] all stands = cc stands
none_standing at member (entry ∷ entries) all stands = by (is_at (request_cmp at) entry.0) refl stands (none_standing at member entries)
  where
    both : (list_all is_served entry.1 ≡ true) × (list_all (λ (e : RequestNo × List Request). list_all is_served e.1) entries ≡ true)
    both = and_parts (list_all is_served entry.1) _ all

    by : (b : Bool) → is_at (request_cmp at) entry.0 ≡ b → is_some (find (is_standing member) (requests_in (entry ∷ entries) at)) ≡ true
        → (list_all (λ (e : RequestNo × List Request). list_all is_served e.1) entries ≡ true → is_some (find (is_standing member) (requests_in entries at)) ≡ true → ⊥) → ⊥
    by true is s more = none_in member entry.1 both.0 (rw is at s)
    by false is s more = more both.1 (rw is at s)

module _ (tid : Tid) (tx : TransactionValue) (old new : Field) (sized : new.size ≡ old.size) where
  one : (at : RequestNo) (requests : List Request) → list_all is_served requests ≡ true → IsPlaced tid old at requests → IsPlaced tid new at requests
  one at requests all placed = record {
    from_in = subst (λ (s : ℕ). at.link.from.0 < s) (sym sized) placed.from_in;
    to_in = subst (λ (s : ℕ). at.link.to.0 < s) (sym sized) placed.to_in;
    there = placed.there;
    runs = λ up server. zero_least (standing at server requests) _ (none_stands at server requests all);
    stopped = λ off server. zero_least (standing at server requests) _ (none_stands at server requests all);
  }

  each : (entries : List (RequestNo × List Request)) → list_all (λ (entry : RequestNo × List Request). list_all is_served entry.1) entries ≡ true → EachPlaced tid old entries → EachPlaced tid new entries
  each [] all placed = tt
  each (entry ∷ entries) all placed = let both = and_parts (list_all is_served entry.1) _ all in (one entry.0 entry.1 both.0 placed.0, each entries both.1 placed.1)

  lives : (entries : List (Life × Part)) → list_all agrees entries ≡ true → EachLives tx old entries → EachLives tx new entries
  lives [] all each = tt
  lives (entry ∷ entries) all each = let both = and_parts (agrees entry) (list_all agrees entries) all in
      (record { kept = each.0.kept; member = each.0.member; cast = each.0.cast; made = each.0.made; lives = inr both.0 }, lives entries both.1 each.1)

  pub unanimous_placed : is_unanimous tx ≡ true → Placed tid tx old → Placed tid tx new
  unanimous_placed is placed = record {
    numbers = placed.numbers;
    members = placed.members;
    requests = each tx.requests (and_parts _ _ (and_parts _ _ is).0).1 placed.requests;
    issued = λ at member stands. absurd (none_standing at member tx.requests (and_parts _ _ (and_parts _ _ is).0).1 stands);
    lives = lives tx.parts (and_parts _ _ (and_parts _ _ is).1).0 placed.lives;
    unrefused = placed.unrefused;
    uncrossed = placed.uncrossed;
  }
