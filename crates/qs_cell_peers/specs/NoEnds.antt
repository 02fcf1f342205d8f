-- Ends of links that a node has not. They stand where it has none, so that each number has ends; nothing is said of them.
use Rattle.std.specs.Prelude.{[], ◌+◌, refl}
use Rattle.std.specs.Global.{Global}
use Rattle.std.proofs.Common.{lit<, lit≤}
use Rattle.qs_link.specs.Lane.{DrawValue}
use Rattle.qs_link.specs.Plan.{OutgoingValue}
use Rattle.qs_packet.specs.declared.packet.Packet.{Packet}
use Rattle.rtrb.specs.Fifo.{position_of}
use Rattle.rtrb.specs.Shared.{reader, writer}
use Rattle.rtrb.specs.declared.AnyItems.{AnyItems}
use Rattle.rtrb.specs.declared.consumer.Consumer.{Consumer}
use Rattle.rtrb.specs.declared.producer.Producer.{Producer}
use denote.RawPtr.{null_ptr}

-- the ends of a ring without places
no_producer : Producer Packet Global AnyItems
no_producer = record {
  end = record { words = null_ptr; slots = null_ptr; marker = record {}; names = (0, (0, 0)); heap = record { memory = record { seal = tt } }; role = writer; past = []; ahead = []; limit = 0 };
  alloc = record { memory = record { seal = tt } };
  capacity = 0;
  cached_head = position_of 0 0;
  cached_tail = position_of 0 0;
  writes = (refl, refl, refl, lit< tt);
  counts = (lit≤ tt, lit≤ tt, lit≤ tt);
  cached = (refl, refl);
}

no_consumer : Consumer Packet Global AnyItems
no_consumer = record {
  end = record { words = null_ptr; slots = null_ptr; marker = record {}; names = (0, (0, 0)); heap = record { memory = record { seal = tt } }; role = reader; past = []; ahead = []; limit = 0 };
  alloc = record { memory = record { seal = tt } };
  capacity = 0;
  cached_head = position_of 0 0;
  cached_tail = position_of 0 (0 + 0);
  reads = (refl, refl, refl, lit< tt);
  counts = lit≤ tt;
  cached = (refl, refl);
}

pub no_out : OutgoingValue
no_out = record { feed = record { ring = no_producer; outbox = [] }; plan = []; count = 0; held = [] }

pub no_into : DrawValue Packet
no_into = record { ring = no_consumer; inbox = [] }
