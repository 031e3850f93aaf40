-- How an answer is laid out flat: number 0 for an accepted input, else the refusal with all other fields 0.
use Rattle.std.specs.Prelude.{Err, Ok, ℕ, false, pos}
use Rattle.wire.specs.Answers.{Answer}
use Rattle.avl.specs.declared.DataResult.{DataResult}
use Rattle.datagram.specs.declared.DatagramResult.{DatagramResult}
use Rattle.command.specs.declared.CommandFields.{CommandFields}
use Rattle.element.specs.declared.RecordFields.{RecordFields}
use Rattle.element.specs.declared.Value.{Value}
use Rattle.lookup.specs.declared.Known.{Known}
use Rattle.connection.specs.declared.Started.{Started}
use Rattle.connection.specs.declared.Fed.{Fed}
use Rattle.connection.specs.declared.Lent.{Lent}
use Rattle.connection.specs.declared.Item.{Item}
use Rattle.connection.specs.declared.Item.TheVariants.{More, Login, Packet, Refused}
use Rattle.connection.specs.Feeding.{item_refusal}
use Rattle.scan.specs.declared.LineFields.{LineFields}
use Rattle.scan.specs.declared.LineElement.{LineElement}
use Rattle.capi.specs.declared.StartedC.{StartedC}
use Rattle.capi.specs.declared.FedC.{FedC}
use Rattle.capi.specs.declared.LentC.{LentC}
use Rattle.capi.specs.declared.RecordC.{RecordC}
use Rattle.capi.specs.declared.ValueC.{ValueC}
use Rattle.capi.specs.declared.FoundC.{FoundC}
use Rattle.capi.specs.declared.KnownC.{KnownC}
use Rattle.capi.specs.declared.WrittenC.{WrittenC}
use Rattle.capi.specs.declared.PacketC.{PacketC}
use Rattle.capi.specs.declared.DatagramC.{DatagramC}
use Rattle.capi.specs.declared.LoginC.{LoginC}
use Rattle.capi.specs.declared.CommandC.{CommandC}
use Rattle.capi.specs.declared.LineC.{LineC}
use Rattle.capi.specs.declared.LineElementC.{LineElementC}

unfoldable pub flat_written : Answer ℕ → WrittenC
flat_written (Ok n) = record { number = 0; index = 0; place = 0; written = n }
flat_written (Err x) = record { number = x.number; index = x.index; place = x.place; written = 0 }

unfoldable pub flat_packet : Answer DataResult → PacketC
flat_packet (Ok d) = record { number = 0; index = 0; place = 0; codec = d.codec; count = d.count }
flat_packet (Err x) = record { number = x.number; index = x.index; place = x.place; codec = 0; count = 0 }

unfoldable pub flat_datagram : Answer DatagramResult → DatagramC
flat_datagram (Ok g) =
    record {
      number = 0;
      index = 0;
      place = 0;
      codec = g.payload.codec;
      count = g.payload.count;
      packet = g.header.packet;
      unused = g.header.unused;
      avl = g.header.avl;
      imei = g.header.imei;
    }
flat_datagram (Err x) = record { number = x.number; index = x.index; place = x.place; codec = 0; count = 0; packet = 0; unused = 0; avl = 0; imei = 0 }

unfoldable pub flat_login : Answer ℕ → LoginC
flat_login (Ok imei) = record { number = 0; index = 0; place = 0; imei = imei }
flat_login (Err x) = record { number = x.number; index = x.index; place = x.place; imei = 0 }

unfoldable pub flat_command : Answer CommandFields → CommandC
flat_command (Ok f) = record { number = 0; index = 0; place = 0; codec = f.codec; kind = f.kind; time = f.time; imei = f.imei; offset = f.offset; size = f.size }
flat_command (Err x) = record { number = x.number; index = x.index; place = x.place; codec = 0; kind = 0; time = 0; imei = 0; offset = 0; size = 0 }

-- 1 a login, 2 a packet, else 0; what belongs to none of these is 0
unfoldable pub item_number : Item → ℕ
item_number More = 0
item_number (Login imei) = 1
item_number (Packet size) = 2
item_number (Refused r) = 0

unfoldable pub item_imei : Item → ℕ
item_imei More = 0
item_imei (Login imei) = imei
item_imei (Packet size) = 0
item_imei (Refused r) = 0

unfoldable pub item_size : Item → ℕ
item_size More = 0
item_size (Login imei) = 0
item_size (Packet size) = size
item_size (Refused r) = 0

-- of a feed; number 0 where nothing is refused
unfoldable pub flat_lent : Lent → LentC
flat_lent l =
    record {
      number = (item_refusal l.item).number;
      index = (item_refusal l.item).index;
      place = (item_refusal l.item).place;
      used = l.used;
      item = item_number l.item;
      imei = item_imei l.item;
      size = item_size l.item;
      fill = l.fill;
      phase = l.phase;
    }

-- of a start
unfoldable pub flat_started : Started → StartedC
flat_started s = record { number = s.refusal.number; index = s.refusal.index; place = s.refusal.place; state = s.state }

unfoldable pub flat_fed : Fed → FedC
flat_fed f =
    record {
      number = (item_refusal f.item).number;
      index = (item_refusal f.item).index;
      place = (item_refusal f.item).place;
      used = f.used;
      item = item_number f.item;
      imei = item_imei f.item;
      size = item_size f.item;
      packet = f.packet;
      state = f.state;
    }

unfoldable pub flat_record : Answer RecordFields → RecordC
flat_record (Ok f) =
    record {
      number = 0;
      index = 0;
      place = 0;
      timestamp = f.timestamp;
      priority = f.priority;
      longitude = f.longitude;
      latitude = f.latitude;
      altitude = f.altitude;
      angle = f.angle;
      satellites = f.satellites;
      speed = f.speed;
      event = f.event;
      generation = f.generation;
      elements = f.elements;
    }
flat_record (Err x) =
    record {
      number = x.number;
      index = x.index;
      place = x.place;
      timestamp = 0;
      priority = 0;
      longitude = pos 0;
      latitude = pos 0;
      altitude = pos 0;
      angle = 0;
      satellites = 0;
      speed = 0;
      event = 0;
      generation = 0;
      elements = 0;
    }

unfoldable pub flat_value : Answer Value → ValueC
flat_value (Ok v) = record { number = 0; index = 0; place = 0; id = v.id; kind = v.kind; offset = v.offset; size = v.size }
flat_value (Err x) = record { number = x.number; index = x.index; place = x.place; id = 0; kind = 0; offset = 0; size = 0 }

-- with the number of elements passed, on a refusal too
unfoldable pub flat_found : Answer Value → ℕ → FoundC
flat_found found passed = record { value = flat_value found; passed = passed }

unfoldable pub flat_known : Answer Known → ℕ → KnownC
flat_known (Ok k) passed =
    record {
      number = 0;
      index = 0;
      place = 0;
      older = k.older;
      id = k.value.id;
      kind = k.value.kind;
      offset = k.value.offset;
      size = k.value.size;
      passed = passed;
    }
flat_known (Err x) passed = record { number = x.number; index = x.index; place = x.place; older = false; id = 0; kind = 0; offset = 0; size = 0; passed = passed }

unfoldable pub flat_line : Answer LineFields → LineC
flat_line (Ok f) =
    record {
      number = 0;
      index = 0;
      place = 0;
      timestamp = f.timestamp;
      longitude = f.longitude;
      latitude = f.latitude;
      speed = f.speed;
      elements = f.elements;
      start = f.start;
    }
flat_line (Err x) =
    record { number = x.number; index = x.index; place = x.place; timestamp = 0; longitude = pos 0; latitude = pos 0; speed = 0; elements = 0; start = 0 }

unfoldable pub flat_element : Answer LineElement → LineElementC
flat_element (Ok e) = record { number = 0; index = 0; place = 0; id = e.id; tag = e.tag; value = e.value; size = e.size; next = e.next }
flat_element (Err x) = record { number = x.number; index = x.index; place = x.place; id = 0; tag = false; value = 0; size = 0; next = 0 }
