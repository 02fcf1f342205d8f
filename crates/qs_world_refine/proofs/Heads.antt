-- What the agreement machine says of a message that comes first on its link, and of a node that knows the commit.
use Rattle.qs_world_refine.proofs.Words.{◌≡◌, ◌≢◌, ◌⊎◌, inl, inr, ℕ, ◌+◌, ◌<◌, ◌≤◌, ◌==◌, ◌&&◌, ◌||◌, not, Bool, true, false, List, [], ◌∷◌, ◌++◌, Option, Some, None, is_some, refl, sym, ap, subst, ◌∙◌, arith, if◌then◌else◌, nat_tests, same_tid, NodeNo, Tid, same_node, Message, Participant, Work, part_of, Open, Committed, Aborted, Inv, Face, ShowsFace, Said, Requested, Closed, Outcome_told, Taken_in, link, IsLink, IsTold, names_node, node_no, said, all_said, began_here, face, face_at, part_at}
use Rattle.qs_world_refine.proofs.Words.{outcome_of, place, known_place, Scene, is_superior, same_flag, Stands, IsNext}
use Rattle.qs_base.specs.declared.identifiers.Outcome.{Outcome}
use Rattle.qs_base.specs.declared.identifiers.Outcome.TheVariants as outcomes
use Rattle.qs_world_agree.specs.World as machine
use Rattle.qs_world_agree.specs.World.{World}
use Rattle.qs_world_refine.specs.Links.{IsTaken}
use Rattle.qs_world_refine.proofs.During.{face_here}
use Rattle.qs_world_refine.proofs.Facts.{invariant}
use Rattle.qs_world_refine.proofs.FreshRuns.{fresh}
use Rattle.qs_world_refine.proofs.Handing.{head_said}
use Rattle.qs_world_refine.proofs.Reading.{part_known}
use Rattle.qs_world_refine.proofs.Same.{tid_same}
use Rattle.qs_world_refine.proofs.SoundHolds.{known_sound}
use Rattle.qs_world_refine.proofs.SoundParts.{and_both}
use Rattle.qs_world_refine.proofs.SoundViews.{PartSound}
use Rattle.qs_world_refine.proofs.Streams.{within}

-- who knows the commit knows that it was decided
abbrev pub Learnt : Tid → Work → World → Type 0
Learnt t work w = (part : Participant) → part_of t work ≡ Some part → part.outcome ≡ Some outcomes.Commit → w.cell ≡ Committed

module _ (t : Tid) (scene : Scene) (n : ℕ) (work : Work) (w : World) (is : Stands t scene n work w) where
  abbrev q : ℕ
  q = place n (scene.inc n)

  pub shown_here : ShowsFace (face_at work.node t) q w
  shown_here = subst (λ (f : Face). ShowsFace f q w) (face_here t scene n work) (is.shown.faces n is.at.in_run is.at.up)

  pub all_holds : Inv w
  all_holds = invariant w is.lawful

  pub node_is : w.node q ≡ n
  node_is = is.shown.stage.nodes n (scene.inc n) is.at.in_run

  not_aborted : w.cell ≡ Committed → w.cell ≢ Aborted
  not_aborted committed aborted = let both : Committed ≡ Aborted = sym committed ∙ aborted in cc (both)

  -- ---- once commit is decided

  pub none_engaged : w.cell ≡ Committed → (k : ℕ) → w.engaged k ≡ false
  none_engaged committed = (is.lawful.settled committed).passive

  module _ (part : Participant) (known : part_of t work ≡ Some part) where
    pub face_is : face_at work.node t ≡ face work.node t part
    face_is = ap (λ (p : Participant). face work.node t p) (part_known t work.node part known)

    its : PartSound work.node t part
    its = known_sound t work.node part known is.sound

    -- who knows the commit answers to nobody
    pub released : w.cell ≡ Committed → part.outcome ≡ Some outcomes.Commit → part.engage.superior ≡ None
    released committed decided = by (began_here work.node t) refl (sym (ap (λ (f : Face). f.on) face_is) ∙ (sym shown_here.engaged ∙ none_engaged committed q)) part.engage.superior refl
      where
        home_node : began_here work.node t ≡ true → part.engage.home ≡ true
        home_node began = flag part.engage.home (same_node t.home work.node.setting.node) (and_both (same_node t.home work.node.setting.node) _ began).0 its.homed
          where
            flag : (a b : Bool) → b ≡ true → same_flag a b ≡ true → a ≡ true
            flag true b so both = refl
            flag false b so both = absurd (let off : not b ≡ false = rw so refl in cc (off, both))

        no_superior : (o : Option NodeNo) → part.engage.superior ≡ o → part.engage.home ≡ true → o ≡ None
        no_superior None same home = refl
        no_superior (Some superior) same home = absurd (
            let tested : (not part.engage.home && is_superior work.node part.engage.last_superior superior) ≡ true = subst (λ (o : Option NodeNo). (elim o [ None ↦ true | Some superior ↦ not part.engage.home && is_superior work.node part.engage.last_superior superior ]) ≡ true) same its.superior in
            let away : not part.engage.home ≡ true = (and_both (not part.engage.home) _ tested).0 in cc (away, home))

        none : (o : Option NodeNo) → is_some o ≡ false → o ≡ None
        none None so = refl
        none (Some superior) so = absurd (cc (so))

        by : (b : Bool) → began_here work.node t ≡ b → (if b then not (is_some part.outcome) else is_some part.engage.superior) ≡ false → (o : Option NodeNo) → part.engage.superior ≡ o → part.engage.superior ≡ None
        by true began off o same = same ∙ no_superior o same (home_node began)
        by false later off o same = none part.engage.superior off

    -- an outcome that it knows is the one that was decided
    pub aborted_cell : part.outcome ≡ Some outcomes.Abort → w.cell ≡ Aborted
    aborted_cell decided = is.lawful.agreed.knows_abort q (shown_here.outcome ∙ (ap (λ (f : Face). f.outcome) face_is ∙ ap (λ (o : Option Outcome). Rattle.qs_world_refine.specs.NodeFaces.outcome_seen o (part.engage.home || part.involved)) decided))

  -- ---- a message that comes first

  module _ (m i : ℕ) (message : Message) (rest : List Message) (next : IsNext scene n m i message rest) where
    abbrev p : ℕ
    p = place m i

    pub head_link : IsLink (link w p q) (said t message ++ all_said t rest)
    head_link = subst (λ (s : List Said). IsLink (link w p q) s) (head_said t scene n m i message rest work.out.messages next) (is.shown.links m i n (scene.inc n) next.from.in_run is.at.in_run is.at.up refl)

    pub sender_is : w.node p ≡ m
    sender_is = is.shown.stage.nodes m i next.from.in_run

    pub peer_is : w.peer q (w.node p) ≡ p
    peer_is = ap (w.peer q) sender_is ∙ (is.shown.stage.peers n m is.at.in_run next.from.in_run is.at.up ∙ (ap (known_place m) next.from.knows ∙ some i next.from.some))
      where
        some : (k : ℕ) → 1 ≤ k → known_place m k ≡ place m k
        some k positive = by (k == 0) (grind (arith, nat_tests, positive))
          where
            by : (b : Bool) → b ≡ false → (if b then 0 else place m k) ≡ place m k
            by b off = rw off refl

    one_said : (what : Said) → (if same_tid t t then what ∷ [] else []) ++ all_said t rest ≡ what ∷ all_said t rest
    one_said what = rw (tid_same t) refl

    -- a Tell says what was decided
    pub told_commit : said t message ≡ (if same_tid t t then Outcome_told true ∷ [] else []) → w.cell ≡ Committed
    told_commit says = all_holds.outcomes.tells (w.node q) head.0
      where
        head : IsTold (link w p q) true × IsLink (link w p q) (all_said t rest)
        head = subst (λ (s : List Said). IsLink (link w p q) s) (ap (λ (s : List Said). s ++ all_said t rest) says ∙ one_said (Outcome_told true)) head_link

    pub told_abort : said t message ≡ (if same_tid t t then Outcome_told false ∷ [] else []) → w.cell ≡ Aborted
    told_abort says = is.lawful.agreed.told_abort (w.node q) head.0
      where
        head : IsTold (link w p q) false × IsLink (link w p q) (all_said t rest)
        head = subst (λ (s : List Said). IsLink (link w p q) s) (ap (λ (s : List Said). s ++ all_said t rest) says ∙ one_said (Outcome_told false)) head_link

    -- no request comes once commit is decided
    pub no_request : (number server : ℕ) → said t message ≡ (if same_tid t t then Requested number server ∷ [] else []) → w.cell ≢ Committed
    no_request number server says committed = (is.lawful.settled committed).none_left q p (shown_here.up, peer_is, more)
      where
        head : (number ≡ w.received q p + 1) × (server ≡ w.server_of p (w.node q) number) × IsLink (record (link w p q) { received = w.received q p + 1 }) (all_said t rest)
        head = subst (λ (s : List Said). IsLink (link w p q) s) (ap (λ (s : List Said). s ++ all_said t rest) says ∙ one_said (Requested number server)) head_link

        more : w.received q p < w.posted p q
        more = let put = (within (all_said t rest) (record (link w p q) { received = w.received q p + 1 }) head.2).requests in omega (arith, put)

    -- what answers for requests answers for no more than were sent, and never names the home
    module _ (up_to : ℕ) (told : List NodeNo) (says : said t message ≡ (if same_tid t t then Closed up_to told ∷ [] else [])) where
      head : (up_to ≡ w.closer p q (w.closers_taken q p + 1)) × ((k : ℕ) → w.closer_set p q (w.closers_taken q p + 1) k ≡ names_node told (node_no k)) × IsLink (record (link w p q) { taken = w.closers_taken q p + 1 }) (all_said t rest)
      head = subst (λ (s : List Said). IsLink (link w p q) s) (ap (λ (s : List Said). s ++ all_said t rest) says ∙ one_said (Closed up_to told)) head_link

      put : w.closers_taken q p + 1 ≤ w.closers p q
      put = (within (all_said t rest) (record (link w p q) { taken = w.closers_taken q p + 1 }) head.2).closers

      pub below_sent : up_to ≤ w.sent q m
      below_sent = subst (λ (k : ℕ). up_to ≤ w.sent q k) sender_is (chain up_to (w.closer p q (w.closers_taken q p + 1)) (w.last p q) (w.received p q) (w.posted q p) (w.sent q (w.node p)) head.0
          (all_holds.counts.closer_last p q (w.closers_taken q p + 1) (positive (w.closers_taken q p)) put) (all_holds.counts.last_received p q) (all_holds.counts.received_posted p q) (all_holds.counts.posted_sent q p))
        where
          positive : (k : ℕ) → 1 ≤ k + 1
          positive k = omega arith

          chain : (a b c d e f : ℕ) → a ≡ b → b ≤ c → c ≤ d → d ≤ e → e ≤ f → a ≤ f
          chain a b c d e f r s u v y = omega (arith, r, s, u, v, y)

      pub names_no_home : names_node told t.home ≡ false
      names_no_home = sym (head.1 t.home.0) ∙ subst (λ (k : ℕ). w.closer_set p q (w.closers_taken q p + 1) k ≡ false) home_node ((fresh w is.lawful p q).sets (w.closers_taken q p + 1))
        where
          home_node : w.node w.home ≡ t.home.0
          home_node = ap w.node is.shown.stage.home ∙ is.shown.stage.nodes t.home.0 t.inc is.home_in

    -- a Told that names somebody is one on abort
    pub taken_names : (further : List NodeNo) → said t message ≡ (if same_tid t t then Taken_in further ∷ [] else []) → ((further ≡ []) × (w.ack_put p ≡ true)) ⊎ (w.cell ≡ Aborted)
    taken_names further says = by head.0
      where
        head : IsTaken (link w p q) further × IsLink (link w p q) (all_said t rest)
        head = subst (λ (s : List Said). IsLink (link w p q) s) (ap (λ (s : List Said). s ++ all_said t rest) says ∙ one_said (Taken_in further)) head_link

        aborted : (o : machine.Outcome) → (elim o [ Aborted ↦ true | Open ↦ false | Committed ↦ false ]) ≡ true → o ≡ Aborted
        aborted Aborted so = refl
        aborted Open so = absurd (cc (so))
        aborted Committed so = absurd (cc (so))

        by : IsTaken (link w p q) further → ((further ≡ []) × (w.ack_put p ≡ true)) ⊎ (w.cell ≡ Aborted)
        by (inl acked) = inl (acked.1, acked.0)
        by (inr names) = inr (aborted w.cell names.0)
