-- What a record by number gives.
use Rattle.wire.specs.Numbers.{signed}
use Rattle.element.specs.declared.RecordFields.{RecordFields}
use Rattle.avl.specs.Records.{AvlRecord, element_count}

-- a record's fixed fields, its coordinates and altitude signed, and the number of its elements
unfoldable pub record_result : AvlRecord → RecordFields
record_result r =
    record {
      timestamp = r.fixed.timestamp;
      priority = r.fixed.priority;
      longitude = signed 4 r.fixed.longitude;
      latitude = signed 4 r.fixed.latitude;
      altitude = signed 2 r.fixed.altitude;
      angle = r.fixed.angle;
      satellites = r.fixed.satellites;
      speed = r.fixed.speed;
      event = r.fixed.event;
      generation = r.fixed.generation;
      elements = element_count r.groups;
    }
