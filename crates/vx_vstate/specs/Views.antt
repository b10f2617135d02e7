-- A setting as the values of its fields.
use Rattle.vx_vstate.specs.State.{SettingView}
use Rattle.vx_vstate.specs.declared.setting.Setting.{Setting}

abbrev pub view_of : Setting → SettingView
view_of s = record { vlen = s.vlen; vl = s.vl; vtype = s.vtype; vstart = s.vstart; vxrm = s.vxrm; scalar = s.scalar }
