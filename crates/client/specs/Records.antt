-- 01, "Recording", what a sequence keeps of a client: "NAME, master NAME and both labels are kept with each client as its first step is stored".
use Rattle.std.specs.Prelude.{Bool, not, [], eqb}
use Rattle.octets.specs.Label.{blank}
use Rattle.client.specs.{declared.Client.Client, declared.ClientRecord.ClientRecord}

abbrev pub is_used : ClientRecord → Bool
is_used c = not (eqb c.used 0)

unfoldable pub blank_record : ClientRecord
blank_record = record { used = 0; name = 0; master = 0; version = blank; configuration = blank }

-- what is read past the last record; no rule looks at it
abbrev pub no_record : ClientRecord
no_record = record { used = 0; name = 0; master = 0; version = record { length = 0; bytes = [] }; configuration = record { length = 0; bytes = [] } }

unfoldable pub record_of : Client → ClientRecord
record_of s = record {
  used = 1;
  name = s.name;
  master = s.profile.master;
  version = s.profile.version;
  configuration = s.profile.configuration;
}
