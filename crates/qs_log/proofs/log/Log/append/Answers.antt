use Rattle.std.proofs.Common.{◌≡◌, List, length, IfOk, refl, sym, ◌∙◌, ap, subst, arith}
use Rattle.qs_record.specs.declared.record.Record.{Record}
use Rattle.qs_log.specs.Log.{LogValue, Stands, room_of}
use Rattle.qs_log.proofs.Forcing.{on_ok_map}
use Rattle.qs_log.proofs.Holding.{view_of, seen_view, all_seen, more_fits, batch_small, kept_added, seen_more, room_less, added_stands}
use Rattle.qs_log.proofs.log.Log.append.Goals as goal

pub returns-then-room-need-clause-full : goal.returns-then-room-need-clause-full
returns-then-room-need-clause-full g c = λ need room. (
  (λ told.
      let n : c.need-need.result ≡ need = cc in
      let m : c.room-room.result ≡ room = cc in
      record {
        need_is = sym n ∙ c.need-need.ensures;
        room_is = sym m ∙ c.room-room.ensures;
        above = omega (arith, n, m, c.if-room-need.true);
      }),
  (λ full.
      let n : c.need-need.result ≡ need = c.need-need.ensures ∙ sym full.need_is in
      let m : c.room-room.result ≡ room = c.room-room.ensures ∙ sym full.room_is in
      cc),
)

pub add_to_both-requires-clause-fits : goal.add_to_both-requires-clause-fits
add_to_both-requires-clause-fits g c =
    let seen = seen_view c.args.self.now c.self.inside.disk c.self.inside.slots c.self.inside.records c.self.inside.forced c.self.inside.used c.self.view_is in
    let room = c.room-room.ensures ∙ ap (λ (v : LogValue g.row.D.Denot). room_of (g.D.Disk.byte_count v.disk) c.args.self.now) (sym c.self.view_is) in
    batch_small (g.D.Disk.byte_count c.self.inside.disk) c.self.inside.used c.self.inside.batch c.args.rec.now c.self.invariant.allowed
    (more_fits c.args.self.now (g.D.Disk.byte_count c.self.inside.disk) c.self.inside.slots c.self.inside.records c.self.inside.forced c.self.inside.batch c.self.inside.used
    c.need-need.result c.room-room.result c.args.rec.now c.self.invariant seen c.need-need.ensures room c.if-room-need.false)

pub invariant_of-self : goal.invariant_of-self
invariant_of-self g c =
    let seen = seen_view c.args.self.now c.self.inside.disk c.self.inside.slots c.self.inside.records c.self.inside.forced c.self.inside.used c.self.view_is in
    let room = c.room-room.ensures ∙ ap (λ (v : LogValue g.row.D.Denot). room_of (g.D.Disk.byte_count v.disk) c.args.self.now) (sym c.self.view_is) in
    kept_added c.add_to_both.result (g.D.Disk.byte_count c.self.inside.disk) c.self.inside.slots c.self.inside.records c.add_to_both.new.records c.self.inside.forced
    c.self.inside.batch c.add_to_both.new.batch c.self.inside.used c.args.rec.now c.self.invariant
    c.add_to_both.ensures.records c.add_to_both.ensures.batch c.add_to_both.ensures.same_records c.add_to_both.ensures.same_batch
    (more_fits c.args.self.now (g.D.Disk.byte_count c.self.inside.disk) c.self.inside.slots c.self.inside.records c.self.inside.forced c.self.inside.batch c.self.inside.used
    c.need-need.result c.room-room.result c.args.rec.now c.self.invariant seen c.need-need.ensures room c.if-room-need.false)

pub returns-clause-full : goal.returns-clause-full
returns-clause-full g c = λ need room. (
  (λ told. absurd (c.add_to_both.ensures.only need room told)),
  (λ full. absurd (omega (arith, c.need-need.ensures ∙ sym full.need_is, c.room-room.ensures ∙ sym full.room_is, full.above, c.if-room-need.false))),
)

pub returns-clause-lsn : goal.returns-clause-lsn
returns-clause-lsn g c =
    let seen = seen_view c.args.self.now c.self.inside.disk c.self.inside.slots c.self.inside.records c.self.inside.forced c.self.inside.used c.self.view_is in
    subst (λ (rs : List Record). IfOk c.add_to_both.result (λ lsn. lsn ≡ length rs))
    (sym (all_seen c.args.self.now c.self.inside.slots c.self.inside.records c.self.inside.forced c.self.inside.used seen)) c.add_to_both.ensures.lsn

pub returns-clause-added : goal.returns-clause-added
returns-clause-added g c =
    let seen = seen_view c.args.self.now c.self.inside.disk c.self.inside.slots c.self.inside.records c.self.inside.forced c.self.inside.used c.self.view_is in
    on_ok_map c.add_to_both.result
    (seen_more c.args.self.now (view_of c.self.inside.disk c.self.inside.slots c.add_to_both.new.records c.self.inside.forced c.self.inside.used)
    c.self.inside.slots c.self.inside.records c.add_to_both.new.records c.self.inside.forced c.self.inside.used c.args.rec.now seen
    (record { slots_are = refl; forced_are = refl; waiting_are = refl; used_is = refl }) (ap (λ (v : LogValue g.row.D.Denot). v.disk) c.self.view_is) c.self.invariant.split)
    c.add_to_both.ensures.records

pub returns-clause-room : goal.returns-clause-room
returns-clause-room g c =
    let seen = seen_view c.args.self.now c.self.inside.disk c.self.inside.slots c.self.inside.records c.self.inside.forced c.self.inside.used c.self.view_is in
    let next : LogValue g.row.D.Denot = view_of c.self.inside.disk c.self.inside.slots c.add_to_both.new.records c.self.inside.forced c.self.inside.used in
    on_ok_map c.add_to_both.result
    (λ more. room_less c.args.self.now next (g.D.Disk.byte_count c.args.self.now.disk) c.need-need.result c.room-room.result c.args.rec.now
    (seen_more c.args.self.now next
    c.self.inside.slots c.self.inside.records c.add_to_both.new.records c.self.inside.forced c.self.inside.used c.args.rec.now seen
    (record { slots_are = refl; forced_are = refl; waiting_are = refl; used_is = refl }) (ap (λ (v : LogValue g.row.D.Denot). v.disk) c.self.view_is) c.self.invariant.split more)
    c.need-need.ensures c.room-room.ensures c.if-room-need.false)
    c.add_to_both.ensures.records

pub returns-clause-stands : goal.returns-clause-stands
returns-clause-stands g c = λ told stands.
    let seen = seen_view c.args.self.now c.self.inside.disk c.self.inside.slots c.self.inside.records c.self.inside.forced c.self.inside.used c.self.view_is in
    added_stands c.add_to_both.result c.args.self.now (view_of c.self.inside.disk c.self.inside.slots c.add_to_both.new.records c.self.inside.forced c.self.inside.used)
    c.self.inside.slots c.self.inside.records c.add_to_both.new.records c.self.inside.forced c.self.inside.used c.args.rec.now
    (g.D.Disk.state c.self.inside.disk) seen
    (record { slots_are = refl; forced_are = refl; waiting_are = refl; used_is = refl }) c.self.invariant.split
    c.add_to_both.ensures.records c.add_to_both.ensures.same_records
    (subst (λ (v : LogValue g.row.D.Denot). Stands c.args.self.now (g.D.Disk.state v.disk)) (sym c.self.view_is) stands)
