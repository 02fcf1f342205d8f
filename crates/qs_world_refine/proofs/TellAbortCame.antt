-- A Tell with abort comes to another node than the home: Learn_abort or Name_again; and Told goes, with the names of all whom it drew in.
use Rattle.qs_world_refine.proofs.Words.{◌≡◌, ◌≢◌, ℕ, ◌<◌, ◌==◌, Bool, true, false, List, [], ◌∷◌, Option, Some, None, length, refl, sym, subst, ap, ◌∙◌, arith, if◌then◌else◌, nat_tests, length-set, NodeNo, Tid, peer_of, no_nodes, same_node, listed, Message, drawn_in, named_by, is_undecided, Participant, send, Work, here, message_came, learn, learn_unknown, names_at, names_of, take_outcome, Aborted, IsLawful, Face, Said, Outcome_told, link, IsLink, node_no, names_node, all_said, face, face_at}
use Rattle.qs_world_refine.proofs.Words.{began_here, place, NamedGoes, drew, sight_faced, Scene, sight_during, ShowsWork, handed, Sight, IsAt, IsWhole, Goes}
use Rattle.qs_base.specs.declared.identifiers.Outcome.TheVariants as outcomes
use Rattle.qs_engage.specs.Nodes.{all_nodes, has_node}
use Rattle.qs_packet.specs.declared.message.Message.TheVariants as messages
use Rattle.qs_world_agree.specs.World.{World}
use Rattle.qs_world_refine.specs.AbortRules.{IsToldAbort, TellAbortAgainGoes}
use Rattle.qs_world_refine.specs.Steps.{Knows}
use Rattle.qs_world_refine.proofs.Alike.{same_itself}
use Rattle.qs_world_refine.proofs.Around.{known_is, place_some}
use Rattle.qs_world_refine.proofs.Arrays.{node_dropped}
use Rattle.qs_world_refine.proofs.During.{quiet_itself, local_shown, face_here, runs, meets}
use Rattle.qs_world_refine.proofs.Handing.{taken_shown, head_said}
use Rattle.qs_world_refine.proofs.Known.{told_is}
use Rattle.qs_world_refine.proofs.Learning.{uncounted_taken}
use Rattle.qs_world_refine.proofs.LearningAbort.{name_again}
use Rattle.qs_world_refine.proofs.NamesPut.{names_put}
use Rattle.qs_world_refine.proofs.NodeSets.{listed_has, where_length}
use Rattle.qs_world_refine.proofs.NodeTests.{drawn_has}
use Rattle.qs_world_refine.proofs.Reading.{part_known}
use Rattle.qs_world_refine.proofs.Same.{tid_same}

-- the names that a Told carries are of nodes that it drew in, and not of the home
pub named_drew : (home : NodeNo) (part : Participant) (k : ℕ) → IsWhole part → home.0 < 16 → names_node (listed (named_by home part)) (node_no k) ≡ true
    → (k ≢ home.0) × ((if has_node part.told (node_no k) then true else (if (peer_of part.engage (node_no k)).sent == 0 then false else true)) ≡ true)
named_drew home part k whole home_in named = by (k == home.0) refl (sym (node_dropped home.0 k (drawn_in part) (rw drawn_length home_in)) ∙ has)
  where
    drawn_length : length (drawn_in part).has ≡ 16
    drawn_length = where_length _ all_nodes no_nodes

    has : has_node (named_by home part) (node_no k) ≡ true
    has = sym (listed_has (named_by home part) k (length-set (drawn_in part).has home.0 false ∙ drawn_length)) ∙ named

    by : (b : Bool) → (k == home.0) ≡ b → (if b then false else has_node (drawn_in part) (node_no k)) ≡ true
        → (k ≢ home.0) × ((if has_node part.told (node_no k) then true else (if (peer_of part.engage (node_no k)).sent == 0 then false else true)) ≡ true)
    by true is has = absurd (cc has)
    by false is has = ((λ e. grind (arith, nat_tests, is, e)), sym (drawn_has part k whole) ∙ has)

module _ (tid : Tid) (scene : Scene) (n m i : ℕ) (rest : List Message) (work : Work) (w : World) (lawful : IsLawful w) (shown : ShowsWork tid scene n work w) (is : IsToldAbort tid scene n m i rest work) where
  abbrev later : Scene
  later = handed scene m i n rest

  abbrev pub x : Sight
  x = sight_during tid later n work

  pub elsewhere : tid.home.0 ≢ n
  elsewhere = λ e. is.next.from.other (is.from_home ∙ e)

  pub home_in : tid.home.0 < scene.size
  home_in = subst (λ (k : ℕ). k < scene.size) is.from_home is.next.from.in_run

  pub not_home : same_node tid.home (here work) ≡ false
  not_home = rw is.at.node (grind (arith, nat_tests, elsewhere))

  pub not_here : began_here work.node tid ≡ false
  not_here = rw not_home refl

  pub at_later : (new : Work) → new.node.setting ≡ work.node.setting → IsAt later n new
  at_later new same = record { in_run = is.at.in_run; up = is.at.up; node = rw same is.at.node; nodes = rw same is.at.nodes; inc = rw same is.at.inc }

  link_before : IsLink (link w (place m i) (place n (scene.inc n))) (Outcome_told false ∷ all_said tid rest)
  link_before = subst (λ (l : List Said). IsLink (link w (place m i) (place n (scene.inc n))) l) head (shown.links m i n (scene.inc n) is.next.from.in_run is.at.in_run is.at.up refl)
    where
      head : (sight_during tid scene n work).said m i n (scene.inc n) ≡ Outcome_told false ∷ all_said tid rest
      head = head_said tid scene n m i (messages.Tell tid outcomes.Abort) rest work.out.messages is.next ∙ rw (tid_same tid) refl

  pub told : w.tell_abort n ≡ true
  told = ap w.tell_abort (sym (shown.stage.nodes n (scene.inc n) is.at.in_run)) ∙ link_before.0

  pub met : w.peer (place n (scene.inc n)) tid.home.0 ≢ 0
  met = subst (λ (k : ℕ). w.peer (place n (scene.inc n)) k ≢ 0) is.from_home (λ e. none (sym (shown.stage.peers n m is.at.in_run is.next.from.in_run is.at.up ∙ rw is.next.from.knows (known_is m i is.next.from.some)) ∙ e))
    where
      none : place m i ≡ 0 → ⊥
      none e = let some = place_some m i is.next.from.some in omega (arith, e, some)

  pub shown_later : ShowsWork tid later n work w
  shown_later = taken_shown tid scene n m i (messages.Tell tid outcomes.Abort) rest work work w is.next (quiet_itself tid work) ((sight_during tid scene n work).face n)
      (uncounted_taken tid (sight_during tid scene n work) w n m i (all_said tid rest) shown (runs tid scene n work is.at) (meets tid scene n m i work is.next.from) link_before.1)
      (rw (face_here tid scene n work) (same_itself (face_at work.node tid)))

  -- a Told goes, with names of those whom the place has named
  pub told_put : (new : Work) (f : Face) (further : List NodeNo) (turn : NamedGoes tid x (sight_faced x n f) w n) → f.outcome ≡ Aborted → new.node.setting ≡ work.node.setting → ShowsWork tid later n new turn.next
      → ((k : ℕ) → names_node further (node_no k) ≡ true → (k ≢ tid.home.0) × (drew (x.face n) k ≡ true))
      → Goes tid later n (send (node_no m) (messages.Told tid further) new) w
  told_put new f further turn aborted setting seen names =
      names_put tid later n m i work w lawful (record { in_run = is.next.from.in_run; other = is.next.from.other; knows = is.next.from.knows; some = is.next.from.some }) new f further turn aborted (at_later new setting) seen names

  -- ---- what the rule comes to

  pub came_is : message_came (node_no m) (messages.Tell tid outcomes.Abort) work ≡ send (node_no m) (messages.Told tid (names_at tid outcomes.Abort work)) (take_outcome tid outcomes.Abort work)
  came_is = ap (λ (b : Bool). if b then work else send (node_no m) (messages.Told tid (names_at tid outcomes.Abort work)) (take_outcome tid outcomes.Abort work)) not_home

  module _ (part : Participant) (knows : Knows tid work part) where
    pub face_before : x.face n ≡ face work.node tid part
    face_before = face_here tid later n work ∙ ap (λ (p : Participant). face work.node tid p) (part_known tid work.node part knows.known)

    pub known_is_came : (new : Work) → (if is_undecided part then learn tid outcomes.Abort part work else work) ≡ new → message_came (node_no m) (messages.Tell tid outcomes.Abort) work ≡ send (node_no m) (messages.Told tid (listed (named_by tid.home part))) new
    known_is_came new new_is = came_is
        ∙ (ap (λ (l : List NodeNo). send (node_no m) (messages.Told tid l) (take_outcome tid outcomes.Abort work)) (told_is tid [] (names_of tid outcomes.Abort) work.node.manager part knows.known)
        ∙ (ap (λ (o : Option Participant). send (node_no m) (messages.Told tid (listed (named_by tid.home part))) (elim o [ None ↦ learn_unknown tid outcomes.Abort work | Some part ↦ if is_undecided part then learn tid outcomes.Abort part work else work ])) knows.known
        ∙ ap (λ (k : Work). send (node_no m) (messages.Told tid (listed (named_by tid.home part))) k) new_is))

    pub names : (k : ℕ) → names_node (listed (named_by tid.home part)) (node_no k) ≡ true → (k ≢ tid.home.0) × (drew (x.face n) k ≡ true)
    names k named = let both = named_drew tid.home part k knows.whole (omega (arith, home_in, shown.stage.small)) named in (both.0, rw face_before both.1)

pub tell_again : TellAbortAgainGoes
tell_again tid scene n m i rest work part w lawful shown is knows aborted = subst (λ (k : Work). Goes tid (handed scene m i n rest) n k w) (sym came)
    (told_put tid scene n m i rest work w lawful shown is work (later_sight.face n) (listed (named_by tid.home part)) turn now refl seen (names tid scene n m i rest work w lawful shown is part knows))
  where
    later_sight : Sight
    later_sight = sight_during tid (handed scene m i n rest) n work

    now : (later_sight.face n).outcome ≡ Aborted
    now = rw (face_before tid scene n m i rest work w lawful shown is part knows) (rw aborted refl)

    turn : NamedGoes tid later_sight (sight_faced later_sight n (later_sight.face n)) w n
    turn = name_again tid later_sight w n (shown_later tid scene n m i rest work w lawful shown is) (runs tid (handed scene m i n rest) n work (at_later tid scene n m i rest work w lawful shown is work refl)) now
        (elsewhere tid scene n m i rest work w lawful shown is) (home_in tid scene n m i rest work w lawful shown is)

    seen : ShowsWork tid (handed scene m i n rest) n work turn.next
    seen = local_shown tid (handed scene m i n rest) n work work turn.next (quiet_itself tid work) (later_sight.face n) turn.shown (rw (face_here tid (handed scene m i n rest) n work) (same_itself (face_at work.node tid)))

    decided : is_undecided part ≡ false
    decided = rw aborted refl

    came : message_came (node_no m) (messages.Tell tid outcomes.Abort) work ≡ send (node_no m) (messages.Told tid (listed (named_by tid.home part))) work
    came = known_is_came tid scene n m i rest work w lawful shown is part knows work (ap (λ (b : Bool). if b then learn tid outcomes.Abort part work else work) decided)
