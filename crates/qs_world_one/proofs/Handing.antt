-- A command comes from a client: the world's client hands it over, and each client stands where it should then.
use Rattle.std.proofs.Common.{◌≡◌, ◌⊎◌, ◌∙◌, ap, inl, inr, refl, subst, sym, ℕ, ◌==◌, Bool, true, false, List, [], ◌∷◌, Option, Some, None, Equal, arith, cond, nat_lt, if◌then◌else◌}
use Rattle.std.proofs.lemmas.Bool.Decides.{nat_tests}
use Rattle.std.proofs.lemmas.Cmp.{nat_cmp_total, tied_itself}
use Rattle.std.proofs.lemmas.Map.Lookups.{exact_unsigned}
use Rattle.std.specs.BTreeMap.{is_at}
use Rattle.qs_base.specs.declared.identifiers.ClientNo.{ClientNo}
use Rattle.qs_cell.specs.Visits.{left_of}
use Rattle.qs_cell_chronicle.specs.Carried.{Commands, in_hand}
use Rattle.qs_cell_chronicle.specs.declared.carried.HeldCommand.{HeldCommand}
use Rattle.qs_client.specs.declared.cell.ClientCell.{ClientCell}
use Rattle.qs_book_journal.specs.declared.script_line.ScriptLine.{ScriptLine}
use Rattle.qs_link.specs.Lanes as lanes
use Rattle.qs_link.specs.Lanes.{at_client, ends_of, first_of, is_of, line_of, without_line}
use Rattle.qs_link.specs.declared.ends.NodeEnds.{NodeEnds}
use Rattle.qs_world_lawful.proofs.Answers.{client_exact}
use Rattle.qs_book_laws.proofs.Maps.{lookup_put, lookup_put_apart}
use Rattle.qs_node_step.specs.State.{client_cmp}
use Rattle.qs_world.specs.Moves.{client_count}
use Rattle.qs_world.specs.Posting.{handed, next_line}
use Rattle.qs_world.specs.World.{Client}
use Rattle.qs_world_one.specs.Clients.{Place, ShowsClient}
use Rattle.qs_world_one.specs.Showing.{CommandComes, CommandHanded, IsDue, ShowsIn, held_for}
use Rattle.qs_world_one.specs.Turns as turns
use Rattle.qs_world_one.specs.Turns.{IsTaken, IsTakenAgain, in_hand_by}
use Rattle.qs_world_one.proofs.Hands.{each_again, each_taken}

-- ---- the ends of one client changed

found_by : (b : Bool) (client : ClientNo) (f : NodeEnds → NodeEnds) (e : NodeEnds) (es : List NodeEnds) (end : NodeEnds) → (f e).client ≡ e.client → is_of client e ≡ b
    → (ends_of client es ≡ Some end → ends_of client (at_client client f es) ≡ Some (f end))
    → cond b (Some e) (ends_of client es) ≡ Some end → ends_of client (if b then f e ∷ es else e ∷ at_client client f es) ≡ Some (f end)
found_by true client f e es end keeps is more h = let at : is_of client (f e) ≡ true = ap (λ (c : ClientNo). c.0 == client.0) keeps ∙ is in rw at (ap (λ (x : NodeEnds). Some (f x)) (one h))
  where
    one : Some e ≡ Some end → e ≡ end
    one same = cc same
found_by false client f e es end keeps is more h = rw is (more h)

pub found_changed : (client : ClientNo) (f : NodeEnds → NodeEnds) → ((e : NodeEnds) → (f e).client ≡ e.client) → (ends : List NodeEnds) (end : NodeEnds) → ends_of client ends ≡ Some end
    → ends_of client (at_client client f ends) ≡ Some (f end)
found_changed client f keeps [] end h = absurd (cc h)
found_changed client f keeps (e ∷ es) end h = found_by (is_of client e) client f e es end (keeps e) refl (found_changed client f keeps es end) h

apart_of : (client other : ClientNo) (e : NodeEnds) → (other.0 == client.0) ≡ false → is_of client e ≡ true → is_of other e ≡ false
apart_of client other e far is = off e.client.0 client.0 other.0 far is
  where
    off : (x a b : ℕ) → (b == a) ≡ false → (x == a) ≡ true → (x == b) ≡ false
    off x a b differ same = grind (arith, nat_tests, differ, same)

other_by : (b c : Bool) (client other : ClientNo) (f : NodeEnds → NodeEnds) (e : NodeEnds) (es : List NodeEnds) → (f e).client ≡ e.client → (other.0 == client.0) ≡ false → is_of client e ≡ b → is_of other e ≡ c
    → ends_of other (at_client client f es) ≡ ends_of other es → ends_of other (if b then f e ∷ es else e ∷ at_client client f es) ≡ cond c (Some e) (ends_of other es)
other_by true true client other f e es keeps far is at more = absurd (cc (sym at ∙ apart_of client other e far is))
other_by true false client other f e es keeps far is at more = let at_new : is_of other (f e) ≡ false = ap (λ (c : ClientNo). c.0 == other.0) keeps ∙ at in rw at_new refl
other_by false true client other f e es keeps far is at more = rw at refl
other_by false false client other f e es keeps far is at more = rw at more

pub found_other : (client other : ClientNo) (f : NodeEnds → NodeEnds) → ((e : NodeEnds) → (f e).client ≡ e.client) → (other.0 == client.0) ≡ false → (ends : List NodeEnds)
    → ends_of other (at_client client f ends) ≡ ends_of other ends
found_other client other f keeps far [] = refl
found_other client other f keeps far (e ∷ es) = other_by (is_of client e) (is_of other e) client other f e es (keeps e) far refl refl (found_other client other f keeps far es)

-- ---- numbers of clients

pub itself : (n : ℕ) → (n == n) ≡ true
itself n = grind (arith, nat_tests)

-- two clients are one, or have two numbers
pub same_or : (c d : ClientNo) → (c ≡ d) ⊎ ((c.0 == d.0) ≡ false)
same_or c d = by (c.0 == d.0) refl
  where
    same : (a b : ℕ) → (a == b) ≡ true → a ≡ b
    same a b e = grind (arith, nat_tests, e)

    by : (b : Bool) → (c.0 == d.0) ≡ b → (c ≡ d) ⊎ ((c.0 == d.0) ≡ false)
    by true e = inl (ap (λ (n : ℕ). record { 0 = n }) (same c.0 d.0 e))
    by false e = inr e

pub exact : (c d : ClientNo) → client_cmp c d ≡ Equal → c ≡ d
exact c d e = ap (λ (n : ℕ). record { 0 = n }) (exact_unsigned c.0 d.0 e)

pub not_at : (c d : ClientNo) → (c.0 == d.0) ≡ false → is_at (client_cmp c) d ≡ false
not_at c d far = by (is_at (client_cmp c) d) refl
  where
    by : (b : Bool) → is_at (client_cmp c) d ≡ b → b ≡ false
    by false e = refl
    by true e = absurd (cc (sym (itself c.0) ∙ (ap (λ (x : ClientNo). c.0 == x.0) (client_exact c d e) ∙ far)))

-- ---- the command of one client

-- what is seen of the client as its line comes
pub record Came (inc : ℕ) (ends : List NodeEnds) (clients : ℕ → Client) (line : ScriptLine) (client : ClientCell) (held : Option HeldCommand) : Type 0 where
  pub next : next_line (clients client.client.0) ≡ Some line
  pub own : line.client ≡ client.client
  pub end : NodeEnds
  pub there : ends_of client.client (left_of client.client held ends) ≡ Some end
  pub shows : ShowsClient inc (Some inc) (record { client = client; end = end; held = in_hand_by inc line }) (turns.handed (clients client.client.0))

module _ (inc : ℕ) (commands : Commands) (ends : List NodeEnds) (clients : ℕ → Client) (line : ScriptLine) (client : ClientCell) (s : ShowsIn inc (Some inc) commands ends clients client) where
  abbrev place : Place
  place = record { client = client; end = s.end; held = held_for client.client commands }

  next_is : lanes.next_line client.client ends ≡ first_of s.end.commands.inbox
  next_is = ap line_of s.there

  came : (h : Option HeldCommand) → held_for client.client commands ≡ h → IsDue inc h (lanes.next_line client.client ends) line → Came inc ends clients line client h
  came None none due =
      let it : IsTaken inc place line (clients client.client.0) = each_taken inc place (clients client.client.0) line s.shows none (sym next_is ∙ due) in
      record {
        next = it.next;
        own = s.own client.progress.place line it.at;
        end = without_line s.end;
        there = found_changed client.client without_line (λ e. refl) ends s.end s.there;
        shows = it.shows;
      }
  came (Some held) has due =
      let it : IsTakenAgain inc place line (clients client.client.0) = subst (λ (l : ScriptLine). IsTakenAgain inc place l (clients client.client.0)) due.1 (each_again inc place (clients client.client.0) held s.shows has due.0) in
      record { next = it.next; own = s.own client.progress.place line it.at; end = s.end; there = s.there; shows = it.shows }

  pub comes : IsDue inc (held_for client.client commands) (lanes.next_line client.client ends) line → Came inc ends clients line client (held_for client.client commands)
  comes due = came (held_for client.client commands) refl due

pub each_handed : (inc : ℕ) (commands : Commands) (ends : List NodeEnds) (clients : ℕ → Client) (line : ScriptLine) (client : ClientCell) → CommandHanded inc commands ends clients line client
each_handed inc commands ends clients line client s due =
    let it : Came inc ends clients line client (held_for client.client commands) = comes inc commands ends clients line client s due in
    record {
      small = ap (λ (k : ClientNo). nat_lt k.0 client_count) it.own ∙ s.small;
      at = ap (λ (k : ClientNo). (clients k.0).at) it.own ∙ s.shows.at;
      next = ap (λ (k : ClientNo). next_line (clients k.0)) it.own ∙ it.next;
    }

-- ---- all clients

-- the client whose line came
own_client : (inc : ℕ) (commands : Commands) (ends : List NodeEnds) (clients : ℕ → Client) (line : ScriptLine) (client : ClientCell) → ShowsIn inc (Some inc) commands ends clients client
    → IsDue inc (held_for client.client commands) (lanes.next_line client.client ends) line
    → ShowsIn inc (Some inc) (in_hand inc line commands) (left_of client.client (held_for client.client commands) ends) (handed line.client.0 clients) client
own_client inc commands ends clients line client s due = record {
  small = s.small;
  own = s.own;
  end = it.end;
  there = it.there;
  shows = subst (λ (h : Option HeldCommand). ShowsClient inc (Some inc) (record { client = client; end = it.end; held = h }) (handed line.client.0 clients client.client.0)) (sym put)
      (subst (λ (c : Client). ShowsClient inc (Some inc) (record { client = client; end = it.end; held = in_hand_by inc line }) c) (sym world_is) it.shows);
}
  where
    it : Came inc ends clients line client (held_for client.client commands)
    it = comes inc commands ends clients line client s due

    put_at : (k : ClientNo) → k ≡ line.client → held_for k (in_hand inc line commands) ≡ in_hand_by inc line
    put_at k e = rw e (lookup_put client_cmp line.client (record { line = line; inc = inc }) (tied_itself nat_cmp_total line.client.0) commands)

    put : held_for client.client (in_hand inc line commands) ≡ in_hand_by inc line
    put = put_at client.client (sym it.own)

    at_own : (k : ClientNo) → k ≡ client.client → handed k.0 clients client.client.0 ≡ turns.handed (clients client.client.0)
    at_own k e = rw (e, itself client.client.0) refl

    world_is : handed line.client.0 clients client.client.0 ≡ turns.handed (clients client.client.0)
    world_is = at_own line.client it.own

other_client : (inc : ℕ) (commands : Commands) (ends : List NodeEnds) (clients : ℕ → Client) (line : ScriptLine) (from : ClientNo) (client : ClientCell) → line.client ≡ from → (client.client.0 == from.0) ≡ false
    → ShowsIn inc (Some inc) commands ends clients client → ShowsIn inc (Some inc) (in_hand inc line commands) (left_of from (held_for from commands) ends) (handed line.client.0 clients) client
other_client inc commands ends clients line from client is far s = record {
  small = s.small;
  own = s.own;
  end = s.end;
  there = same_ends (held_for from commands) ∙ s.there;
  shows = subst (λ (h : Option HeldCommand). ShowsClient inc (Some inc) (record { client = client; end = s.end; held = h }) (handed line.client.0 clients client.client.0)) (sym put)
      (subst (λ (c : Client). ShowsClient inc (Some inc) (record { client = client; end = s.end; held = held_for client.client commands }) c) (sym world_is) s.shows);
}
  where
    same_ends : (h : Option HeldCommand) → ends_of client.client (left_of from h ends) ≡ ends_of client.client ends
    same_ends None = found_other from client.client without_line (λ e. refl) far ends
    same_ends (Some held) = refl

    far_line : (client.client.0 == line.client.0) ≡ false
    far_line = ap (λ (k : ClientNo). client.client.0 == k.0) is ∙ far

    put : held_for client.client (in_hand inc line commands) ≡ held_for client.client commands
    put = lookup_put_apart client_cmp line.client (record { line = line; inc = inc }) (exact line.client) (is_at (client_cmp client.client)) (not_at client.client line.client far_line) commands

    world_is : handed line.client.0 clients client.client.0 ≡ clients client.client.0
    world_is = rw far_line refl

pub each_comes : (inc : ℕ) (commands : Commands) (ends : List NodeEnds) (clients : ℕ → Client) (line : ScriptLine) (from : ClientNo) (client : ClientCell) → CommandComes inc commands ends clients line from client
each_comes inc commands ends clients line from client is due s = by (same_or client.client from)
  where
    by : (client.client ≡ from) ⊎ ((client.client.0 == from.0) ≡ false)
        → ShowsIn inc (Some inc) (in_hand inc line commands) (left_of from (held_for from commands) ends) (handed line.client.0 clients) client
    by (inl same) =
        subst (λ (k : ClientNo). ShowsIn inc (Some inc) (in_hand inc line commands) (left_of k (held_for k commands) ends) (handed line.client.0 clients) client) same
        (own_client inc commands ends clients line client s (subst (λ (k : ClientNo). IsDue inc (held_for k commands) (lanes.next_line k ends) line) (sym same) due))
    by (inr far) = other_client inc commands ends clients line from client is far s
