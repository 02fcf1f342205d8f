-- What a node waits for stands open in the history, and later entries leave it so, unless its node counts it, or its client is answered.
use Rattle.qs_world_runs.proofs.Words.{◌≡◌, ℕ, ◌==◌, ◌&&◌, ◌||◌, not, Bool, true, false, List, [], ◌∷◌, ◌++◌, refl, sym, ap, subst, ◌∙◌, eqb-true, list_any-append, list_any, None, same_tid, NodeNo, Tid, is_open_to, peer_of, Act, Entry, answers, counts, restarts, is_client_no, is_owed_by, Outstanding, Participant, Every, IsAwaited, StandsOwed, stands_awaited, stands_uncounted}
use Rattle.qs_book_journal.specs.declared.entry.Act.TheVariants as acts
use Rattle.qs_book_laws.specs.Gone.{is_counted, is_open_issue, stands_open, waits_still}
use Rattle.qs_ops.specs.Servers.{files_no}
use Rattle.qs_tm.specs.Participant.{is_to, waits_for}
use Rattle.qs_node_step.specs.State.{NodeValue}
use Rattle.qs_world_runs.specs.Owing.{is_awaited, is_uncounted}

either : (a b c d : Bool) → (a ≡ true → c ≡ true) → (b ≡ true → d ≡ true) → (a || b) ≡ true → (c || d) ≡ true
either true b c d f g is = rw (f refl) refl
either false b true d f g is = refl
either false b false d f g is = g is

module _ (tid : Tid) (peer : NodeNo) where
  -- ---- it stands open

  module _ (here : NodeNo) (number : ℕ) where
    uncounted_issue : (from : NodeNo) (act : Act) (since : List Entry) → is_uncounted tid peer here number from act since ≡ true → is_open_issue tid peer from act since ≡ true
    uncounted_issue from (acts.Issue t issuer member k op) since is = by (same_tid t tid && (member.node.0 == peer.0)) (from.0 == here.0) (k == number) refl refl is
      where
        now : from ≡ here → k ≡ number → (c f w : Bool) → is_counted tid peer here number since ≡ c → c ≡ false → (true && (f || (w || not (is_counted tid peer from k since)))) ≡ true
        now e i c f w are none = rw (e, i, are, none) (last f w)
          where
            last : (f w : Bool) → (f || (w || true)) ≡ true
            last true w = refl
            last false true = refl
            last false false = refl

        none_of : (c : Bool) → (true && not c) ≡ true → c ≡ false
        none_of false e = refl
        none_of true e = absurd (cc e)

        by : (g a b : Bool) → (from.0 == here.0) ≡ a → (k == number) ≡ b → ((g && (a && b)) && not (is_counted tid peer here number since)) ≡ true
            → (g && ((issuer.server.0 == files_no) || (waits_still issuer.server.0 since || not (is_counted tid peer from k since)))) ≡ true
        by true true true e i h = now (ap (λ (n : ℕ). record { 0 = n }) (eqb-true from.0 here.0 e)) (eqb-true k number i) (is_counted tid peer here number since) (issuer.server.0 == files_no) (waits_still issuer.server.0 since) refl (none_of (is_counted tid peer here number since) h)
        by true true false e i h = absurd (cc h)
        by true false b e i h = absurd (cc h)
        by false a b e i h = absurd (cc h)
    uncounted_issue from act since is = absurd (cc is)

    pub uncounted_open : (history : List Entry) → stands_uncounted tid peer here number history ≡ true → stands_open tid peer history ≡ true
    uncounted_open [] is = absurd (cc is)
    uncounted_open (entry ∷ since) is = either (is_uncounted tid peer here number entry.node entry.act since) (stands_uncounted tid peer here number since) (is_open_issue tid peer entry.node entry.act since) (stands_open tid peer since)
        (uncounted_issue entry.node entry.act since) (uncounted_open since) is

  module _ (server : ℕ) where
    awaited_issue : (from : NodeNo) (act : Act) (since : List Entry) → is_awaited tid peer server act since ≡ true → is_open_issue tid peer from act since ≡ true
    awaited_issue from (acts.Issue t issuer member k op) since is = by (same_tid t tid && (member.node.0 == peer.0)) (issuer.server.0 == server) refl is
      where
        of : (f w c : Bool) → (f || w) ≡ true → (f || (w || c)) ≡ true
        of true w c h = refl
        of false true c h = refl
        of false false c h = absurd (cc h)

        by : (g a : Bool) → (issuer.server.0 == server) ≡ a → ((g && a) && ((server == files_no) || waits_still server since)) ≡ true
            → (g && ((issuer.server.0 == files_no) || (waits_still issuer.server.0 since || not (is_counted tid peer from k since)))) ≡ true
        by true true e h = subst (λ (s : ℕ). ((s == files_no) || (waits_still s since || not (is_counted tid peer from k since))) ≡ true) (sym (eqb-true issuer.server.0 server e)) (of (server == files_no) (waits_still server since) (not (is_counted tid peer from k since)) h)
        by true false e h = absurd (cc h)
        by false a e h = absurd (cc h)
    awaited_issue from act since is = absurd (cc is)

    pub awaited_open : (history : List Entry) → stands_awaited tid peer server history ≡ true → stands_open tid peer history ≡ true
    awaited_open [] is = absurd (cc is)
    awaited_open (entry ∷ since) is = either (is_awaited tid peer server entry.act since) (stands_awaited tid peer server since) (is_open_issue tid peer entry.node entry.act since) (stands_open tid peer since)
        (awaited_issue entry.node entry.act since) (awaited_open since) is

-- what is owed stands open
module _ (node : NodeValue) (history : List Entry) (tid : Tid) (peer : NodeNo) where
  waits : (requests : List Outstanding) → Every (IsAwaited node history tid) requests → list_any (is_to peer) requests ≡ true → stands_open tid peer history ≡ true
  waits [] all is = absurd (cc is)
  waits (request ∷ more) all is = of (request.member.node.0 == peer.0) refl (waits more all.1) is
    where
      of : (b : Bool) → (request.member.node.0 == peer.0) ≡ b → (list_any (is_to peer) more ≡ true → stands_open tid peer history ≡ true) → (b || list_any (is_to peer) more) ≡ true → stands_open tid peer history ≡ true
      of true same rest h = subst (λ (p : NodeNo). stands_open tid p history ≡ true) (ap (λ (n : ℕ). record { 0 = n }) (eqb-true request.member.node.0 peer.0 same)) (awaited_open tid request.member.node request.issuer.0 history all.0.stands)
      of false far rest h = rest h

  pub owed_open : (part : Participant) → StandsOwed node history tid part → part.outcome ≡ None → is_owed_by peer part ≡ true → stands_open tid peer history ≡ true
  owed_open part s undecided owes = by (is_open_to peer part.engage) refl owes
    where
      by : (b : Bool) → is_open_to peer part.engage ≡ b → (b || waits_for peer part) ≡ true → stands_open tid peer history ≡ true
      by true open_to h = uncounted_open tid peer node.setting.node (peer_of part.engage peer).sent history (s.uncounted peer open_to)
      by false none h = waits part.waiting (s.awaited undecided) h

-- ---- later entries

module _ (tid : Tid) (peer : NodeNo) where
  module _ (here : NodeNo) (number : ℕ) (more : List Entry) (none : list_any (counts tid peer here number) more ≡ false) where
    not_counted : (entries : List Entry) → list_any (counts tid peer here number) entries ≡ false → is_counted tid peer here number entries ≡ false
    not_counted [] is = refl
    not_counted (entry ∷ rest) is = by (restarts here entry) (counts tid peer here number entry) (is_counted tid peer here number rest) (list_any (counts tid peer here number) rest) (not_counted rest) is
      where
        by : (r c d l : Bool) → (l ≡ false → d ≡ false) → (c || l) ≡ false → (not r && (c || d)) ≡ false
        by true c d l f h = refl
        by false true d l f h = absurd (cc h)
        by false false d l f h = f h

    counted_on : (since : List Entry) → is_counted tid peer here number since ≡ false → is_counted tid peer here number (since ++ more) ≡ false
    counted_on [] is = not_counted more none
    counted_on (entry ∷ rest) is = by (restarts here entry) (counts tid peer here number entry) (is_counted tid peer here number rest) (is_counted tid peer here number (rest ++ more)) (counted_on rest) is
      where
        by : (r c d e : Bool) → (d ≡ false → e ≡ false) → (not r && (c || d)) ≡ false → (not r && (c || e)) ≡ false
        by true c d e f h = refl
        by false true d e f h = absurd (cc h)
        by false false d e f h = f h

    issue_on : (from : NodeNo) (act : Act) (since : List Entry) → is_uncounted tid peer here number from act since ≡ true → is_uncounted tid peer here number from act (since ++ more) ≡ true
    issue_on from (acts.Issue t issuer member k op) since is = by ((same_tid t tid && (member.node.0 == peer.0)) && ((from.0 == here.0) && (k == number))) (is_counted tid peer here number since) (is_counted tid peer here number (since ++ more)) (counted_on since) is
      where
        by : (g c d : Bool) → (c ≡ false → d ≡ false) → (g && not c) ≡ true → (g && not d) ≡ true
        by true false d f h = rw (f refl) refl
        by true true d f h = absurd (cc h)
        by false c d f h = absurd (cc h)
    issue_on from act since is = absurd (cc is)

    pub uncounted_on : (history : List Entry) → stands_uncounted tid peer here number history ≡ true → stands_uncounted tid peer here number (history ++ more) ≡ true
    uncounted_on [] is = absurd (cc is)
    uncounted_on (entry ∷ since) is = either (is_uncounted tid peer here number entry.node entry.act since) (stands_uncounted tid peer here number since) (is_uncounted tid peer here number entry.node entry.act (since ++ more)) (stands_uncounted tid peer here number (since ++ more))
        (issue_on entry.node entry.act since) (uncounted_on since) is

  module _ (server : ℕ) (more : List Entry) (none : (server == files_no) ≡ false → list_any (answers server) more ≡ false) where
    waits_on : (since : List Entry) → (server == files_no) ≡ false → waits_still server since ≡ true → waits_still server (since ++ more) ≡ true
    waits_on since other is = by (is_client_no server) (list_any (answers server) since) (list_any (answers server) (since ++ more)) (λ h. list_any-append (answers server) since more ∙ rw (h, none other) refl) is
      where
        by : (c a b : Bool) → (a ≡ false → b ≡ false) → (c && not a) ≡ true → (c && not b) ≡ true
        by true false b f h = rw (f refl) refl
        by true true b f h = absurd (cc h)
        by false a b f h = absurd (cc h)

    awaits_on : (act : Act) (since : List Entry) → is_awaited tid peer server act since ≡ true → is_awaited tid peer server act (since ++ more) ≡ true
    awaits_on (acts.Issue t issuer member k op) since is = by ((same_tid t tid && (member.node.0 == peer.0)) && (issuer.server.0 == server)) (server == files_no) refl is
      where
        by : (g f : Bool) → (server == files_no) ≡ f → (g && (f || waits_still server since)) ≡ true → (g && (f || waits_still server (since ++ more))) ≡ true
        by true true e h = refl
        by true false e h = waits_on since e h
        by false f e h = absurd (cc h)
    awaits_on act since is = absurd (cc is)

    pub awaited_on : (history : List Entry) → stands_awaited tid peer server history ≡ true → stands_awaited tid peer server (history ++ more) ≡ true
    awaited_on [] is = absurd (cc is)
    awaited_on (entry ∷ since) is = either (is_awaited tid peer server entry.act since) (stands_awaited tid peer server since) (is_awaited tid peer server entry.act (since ++ more)) (stands_awaited tid peer server (since ++ more))
        (awaits_on entry.act since) (awaited_on since) is
