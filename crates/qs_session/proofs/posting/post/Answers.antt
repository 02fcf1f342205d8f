use Rattle.qs_session.proofs.Posts.{post_spelled, packet_spelled}
use Rattle.qs_session.proofs.posting.post.Goals as goal

pub returns-clause-spelled : goal.returns-clause-spelled
returns-clause-spelled c =
    post_spelled c.args.session.now c.send.new.self c.args.message c.send.result c.requires.spelled c.requires.message c.send.ensures.last c.send.ensures.end c.send.ensures.err

pub returns-clause-packet : goal.returns-clause-packet
returns-clause-packet c =
    packet_spelled c.args.session.now c.args.message c.args.stamp c.send.result c.requires.spelled c.requires.message c.requires.stamp c.send.ensures.last c.send.ensures.packet c.send.ensures.from
