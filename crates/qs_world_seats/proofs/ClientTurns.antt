-- A client has its turn: it keeps its number and its lines, and the others stay.
use Rattle.std.proofs.Common.{◌≡◌, ◌⊎◌, ◌∙◌, ap, inl, inr, refl, subst, sym, ℕ, ◌+◌, zero, suc, Bool, true, false, List, [], ◌∷◌, Option, Some, None, if◌then◌else◌, nat_lt, slice_get}
use Rattle.std.specs.Prelude.{slice_set}
use Rattle.qs_base.specs.declared.identifiers.ClientNo.{ClientNo}
use Rattle.qs_book_journal.specs.declared.script_line.LineAnswer.{LineAnswer}
use Rattle.qs_book_journal.specs.declared.script_line.ScriptLine.{ScriptLine}
use Rattle.qs_cell.specs.Starts.{CellValue}
use Rattle.qs_cell_chronicle.specs.Carried.{Commands}
use Rattle.qs_client.specs.Progress as progress
use Rattle.qs_client.specs.Progress.{awaits, to_send}
use Rattle.qs_client.specs.Turns.{HearsThenSends, SendsIf, first_answer}
use Rattle.qs_client.specs.declared.cell.ClientCell.{ClientCell}
use Rattle.qs_client.specs.declared.progress.Progress.{Progress}
use Rattle.qs_disk.specs.Disk.{DiskState}
use Rattle.qs_link.specs.Lanes.{ends_of}
use Rattle.qs_link.specs.declared.ends.NodeEnds.{NodeEnds}
use Rattle.qs_session_channels.specs.Network.{Among}
use Rattle.qs_world.specs.Moves.{client_count}
use Rattle.qs_world.specs.World.{Client, Opening}
use Rattle.qs_world_merge.specs.LocalRuns.{client_at}
use Rattle.qs_world_one.proofs.Clients.{each_turn}
use Rattle.qs_world_one.proofs.Numbers.{set_numbers}
use Rattle.qs_world_one.specs.Clients.{ShowsClient}
use Rattle.qs_world_one.specs.Showing.{held_for}
use Rattle.qs_world_rounds.specs.Rounds.{ClientVisit, ClientVisitAt}
use Rattle.qs_world_seats.proofs.Apart.{apart_as}
use Rattle.qs_world_seats.proofs.Carried.{moved_in}
use Rattle.qs_world_seats.specs.Carrying.{ClientsGoOn, IsWithClients}
use Rattle.qs_world_seats.specs.Seats.{AreSeated, IsSeated, at_home}

-- ---- places of a list

one_of : {A : Type 0} {x y : A} → Some x ≡ Some y → x ≡ y
one_of e = cc e

among_get : {A : Type 0} (xs : List A) (at : ℕ) (x : A) → slice_get xs at ≡ Some x → Among xs x
among_get [] at x e = absurd (cc e)
among_get (y ∷ xs) zero x e = inl (one_of e)
among_get (y ∷ xs) (suc at) x e = inr (among_get xs at x e)

among_set : {A : Type 0} (xs : List A) (at : ℕ) (x c : A) → Among (slice_set xs at x) c → (x ≡ c) ⊎ Among xs c
among_set [] at x c there = absurd there
among_set (y ∷ xs) zero x c (inl is) = inl is
among_set (y ∷ xs) zero x c (inr there) = inr (inr there)
among_set (y ∷ xs) (suc at) x c (inl is) = inr (inl is)
among_set (y ∷ xs) (suc at) x c (inr there) = by (among_set xs at x c there)
  where
    by : (x ≡ c) ⊎ Among xs c → (x ≡ c) ⊎ ((y ≡ c) ⊎ Among xs c)
    by (inl is) = inl is
    by (inr more) = inr (inr more)

-- ---- it keeps its lines

lines_heard : (answer : Option LineAnswer) (r : Progress) → (progress.heard answer r).lines ≡ r.lines
lines_heard None r = refl
lines_heard (Some answer) r = by (awaits answer.line r)
  where
    by : (b : Bool) → (if b then record r { place = r.place + 1; is_out = false } else r).lines ≡ r.lines
    by true = refl
    by false = refl

lines_sent : (t : Option ScriptLine) (old new : ClientCell) → SendsIf t old new → new.progress.lines ≡ old.progress.lines
lines_sent (Some line) old new sends = ap (λ (r : Progress). r.lines) sends.progress
lines_sent None old new same = ap (λ (c : ClientCell). c.progress.lines) same

lines_same : (did : Bool) (old new : ClientCell) → HearsThenSends did old new → new.progress.lines ≡ old.progress.lines
lines_same did old new turn = lines_sent (to_send turn.mid.progress) turn.mid new turn.sends
    ∙ (ap (λ (r : Progress). r.lines) turn.hears.hears.progress ∙ lines_heard (first_answer old.answers.inbox) old.progress)

-- ---- its turn

visited : (o : Opening) (n inc : ℕ) (now : Option ℕ) (commands : Commands) (ends : List NodeEnds) (shown : ℕ → Client) (old new : ClientCell) (did : Bool) → ClientVisit old new did
    → IsSeated o n inc now commands ends shown old → IsSeated o n inc now commands ends shown new
visited o n inc now commands ends shown old new did visit s = record {
  of = ap (λ (k : ClientNo). client_at o k.0) visit.client ∙ s.of;
  at = ap (λ (k : ClientNo). (shown k.0).at) visit.client ∙ s.at;
  shows = record {
    small = ap (λ (k : ClientNo). nat_lt k.0 client_count) visit.client ∙ s.shows.small;
    own = λ m line at. s.shows.own m line (ap (λ (l : List ScriptLine). slice_get l m) (sym lines) ∙ at) ∙ sym visit.client;
    end = s.shows.end;
    there = ap (λ (k : ClientNo). ends_of k ends) visit.client ∙ s.shows.there;
    shows = subst (λ (k : ClientNo). ShowsClient inc now (record { client = new; end = s.shows.end; held = held_for k commands }) (at_home shown k.0)) (sym visit.client)
        (each_turn inc now (record { client = old; end = s.shows.end; held = held_for old.client commands }) (at_home shown old.client.0) new did s.shows.shows visit);
  };
}
  where
    lines : new.progress.lines ≡ old.progress.lines
    lines = lines_same did old new visit.turn

pub each_client_turn : {D : Type 0} (told : Type 0) (state : D → DiskState) (o : Opening) (n : ℕ) (cell : CellValue D) (clients new : List ClientCell) (at : ℕ) (did : Bool) → ClientsGoOn told state o n cell clients new at did
each_client_turn told state o n cell clients new at did turns was = by (slice_get clients at) refl turns
  where
    by : (t : Option ClientCell) → slice_get clients at ≡ t → ClientVisitAt at t clients new did → IsWithClients told state o n cell new
    by None got (same, none) = subst (λ (l : List ClientCell). IsWithClients told state o n cell l) (sym same) was
    by (Some client) got (after, (visit, is)) = subst (λ (l : List ClientCell). IsWithClients told state o n cell l) (sym is) (record {
      apart = apart_as clients (slice_set clients at after) (set_numbers clients at client after got visit.client) was.apart;
      there = moved_in told state o n cell.seat.node cell.seat.ends cell.seat.ends clients (slice_set clients at after) on was.there;
    })
      where
        on : (inc : ℕ) (now : Option ℕ) (commands : Commands) (shown : ℕ → Client) → AreSeated o n inc now commands cell.seat.ends shown clients → AreSeated o n inc now commands cell.seat.ends shown (slice_set clients at after)
        on inc now commands shown each c there = among (among_set clients at after c there)
          where
            among : (after ≡ c) ⊎ Among clients c → IsSeated o n inc now commands cell.seat.ends shown c
            among (inl same) = subst (λ (x : ClientCell). IsSeated o n inc now commands cell.seat.ends shown x) same (visited o n inc now commands cell.seat.ends shown client after did visit (each client (among_get clients at client got)))
            among (inr was_there) = each c was_there
