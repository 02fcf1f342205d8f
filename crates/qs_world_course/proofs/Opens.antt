-- As a run begins nothing is in hand, kept, lent or on its way: the course has of each client its seat and its lines.
use Rattle.std.proofs.Common.{◌≡◌, ◌∙◌, ℕ, true, Option, Some, inl, refl, sym, subst}
use Rattle.std.specs.Prelude.{is_some, slice_get}
use Rattle.qs_base.specs.declared.identifiers.NodeNo.{NodeNo}
use Rattle.qs_base_lemmas.proofs.Tests.{some_same}
use Rattle.qs_book_script.specs.declared.script.Script.{Script}
use Rattle.qs_book_conformance.specs.Begun.{clients_of, no_client}
use Rattle.qs_book_conformance.specs.Course.{ClientValue, is_seat}
use Rattle.qs_world.specs.World.{Opening, start}
use Rattle.qs_world_opening.specs.CourseScripts.{IsSeated}
use Rattle.qs_world_course.specs.Clients.{IsOnCourse}
use Rattle.qs_world_course.specs.Worlds.{NodeOnCourse, OpensOnCourse, course_in, for_clients}

seated_so : (o : Opening) (k : ℕ) (seat : Option NodeNo) → is_seat seat (o.clients k).0 ≡ true
    → IsOnCourse (for_clients (start o) (o.clients k).0) (record { 0 = k }) (o.clients k).1 (record no_client { seat = seat; left = (o.clients k).1 })
seated_so o k seat sits = record {
  seat = sits;
  left = refl;
  line = λ command there. absurd (cc there);
  made = λ command there. absurd (cc there);
  spent = λ none. inl refl;
  loans = λ tid. record { loans_are = refl; taken = tt };
  refused = λ label begun there own without. absurd (cc there);
  begun = λ label begun tid there of. absurd (cc there);
}

node_so : (o : Opening) (script : Script) (n : ℕ) → NodeOnCourse (course_in o script (start o)) (start o) n
node_so o script n = record {
  names = record { labels = λ label begun tid some there of. absurd (cc there); outcomes = λ tid decided there. absurd (cc there) };
  waits = λ up client command issued there is. absurd (cc there);
  opens = λ up client command there. absurd (cc there);
}

pub opens_on_course : OpensOnCourse
opens_on_course o script is = record {
  clients = λ k low state there seated. by k (is.clients k low) state there seated;
  nodes = λ n low. node_so o script n;
  messages = record { posted = λ n m i j. tt; waits = λ n m. tt };
}
  where
    by : (k : ℕ) → IsSeated o script k → (state : ClientValue) → slice_get (clients_of script) k ≡ Some state → is_some state.seat ≡ true
        → IsOnCourse (for_clients (start o) (o.clients k).0) (record { 0 = k }) (o.clients k).1 state
    by k s state there seated =
        let same : record no_client { seat = s.seat; left = (o.clients k).1 } ≡ state = some_same (sym s.there ∙ there) in
        subst (IsOnCourse (for_clients (start o) (o.clients k).0) (record { 0 = k }) (o.clients k).1) same
        (seated_so o k s.seat (s.sits (subst (λ (c : ClientValue). is_some c.seat ≡ true) (sym same) seated)))
