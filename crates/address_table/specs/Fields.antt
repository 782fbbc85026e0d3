-- What a node says of its register, as the code keeps it. No public clause speaks of it.
use Rattle.std.specs.Prelude.{◌≡◌, Some}
use Rattle.toml.specs.Data.{Members}
use Rattle.address_table.specs.Keys.{address_at, mask_at, size_at, permission_at, mode_at, count_at, stride_at}
use Rattle.address_table.specs.declared.keys.Fields.{Fields}

pub record SaysFields (ms : Members) (f : Fields) : Type 0 where
  pub address : address_at ms ≡ Some f.address
  pub mask : mask_at ms ≡ Some f.mask
  pub permission : permission_at ms ≡ Some f.permission
  pub mode : mode_at ms ≡ Some f.mode
  pub size : size_at ms ≡ Some f.size
  pub count : count_at ms ≡ Some f.count
  pub stride : stride_at ms ≡ Some f.stride
