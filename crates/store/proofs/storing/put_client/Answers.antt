-- `store::storing::put_client` meets its contract: the stores, one after the other, are the client record's bytes.
use Rattle.std.proofs.Common.{◌≡◌, length, rules}
use Rattle.arrays.proofs.Pad.{length_mapped}
use Rattle.store.proofs.Items.{client_length, client_stored}
use Rattle.store.proofs.storing.put_client.Goals as goal

pub returns : goal.returns
returns c =
    let a = c.args in
    let v : length a.r.now.version.bytes ≡ 63 = search (rules, length_mapped) in
    let w : length a.r.now.configuration.bytes ≡ 63 = search (rules, length_mapped) in record {
      stored = rw (c.put_byte-2.ensures, c.put_bytes-3.ensures, c.put_byte.ensures, c.put_bytes-2.ensures, c.put_u64-2.ensures, c.put_u64.ensures, c.put_bytes.ensures)
          (client_stored a.slot a.r.now v w a.bytes.now);
      width = client_length a.slot a.r.now v w;
    }
